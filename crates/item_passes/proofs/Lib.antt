mod Bound
mod Looking
mod Names
