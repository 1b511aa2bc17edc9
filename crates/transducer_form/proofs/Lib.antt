mod Five
mod Joined
mod Limits
mod Listed
mod States
