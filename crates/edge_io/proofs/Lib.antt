mod Pieces
mod Places
mod Words
