mod Counting
mod Growing
mod Filling
mod Floats
mod Telling
