mod Calling
mod Gaining
mod Later
mod Linking
mod Meeting
mod Reading
mod Saying
mod Writing
