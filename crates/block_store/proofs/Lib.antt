mod Pushes
mod Splices
mod Resizes
mod Starts
