pub mod Numbers
mod Moving
mod Windows
mod Entering
mod Adding
mod Spotting
mod Striding
mod Firsts
mod Counting
mod Bounding
mod Sound
mod Excluding
