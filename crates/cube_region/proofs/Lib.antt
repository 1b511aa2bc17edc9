mod Quotients
mod RowBounds
mod NearNumbers
mod Powers
mod Sides
mod BoxSides
mod NearWorks
mod NearSides
