mod Only
mod Places
mod Refused
mod Rising
mod Waiting
