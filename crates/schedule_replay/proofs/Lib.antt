mod Cutting
mod Joining
mod Parting
mod Printing
mod Places
mod Reading
mod Splitting
