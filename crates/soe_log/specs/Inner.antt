-- How a recorder keeps what it shows. It serves private functions alone: nobody has to believe it.
pub mod Found
pub mod Kept
pub mod Logged
pub mod Noted
