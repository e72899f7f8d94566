mod Openings
mod Saving
mod Telling
