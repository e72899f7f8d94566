mod Always
mod Bounded
