mod Arms
mod Options
mod Ranges
