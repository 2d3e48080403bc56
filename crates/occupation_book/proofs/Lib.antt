mod Pairs
mod Clashes
mod Columns
mod Halves
mod Orders
mod AllZones
mod Removals
mod TakenOut
