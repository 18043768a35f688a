mod Ranges
mod Pushes
