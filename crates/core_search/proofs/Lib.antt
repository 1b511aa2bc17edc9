mod Searching
mod Stayings
