mod Joining
mod Options
mod Refusals
mod Subcommands
