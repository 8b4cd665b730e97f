mod Choosing
mod Gathering
mod Telling
