mod Cuts
mod Written
