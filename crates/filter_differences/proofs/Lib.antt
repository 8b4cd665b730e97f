mod EqualCodes
mod Joined
