mod Begun
mod Sums
mod Walked
