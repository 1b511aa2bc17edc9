mod Standing
mod Cleared
