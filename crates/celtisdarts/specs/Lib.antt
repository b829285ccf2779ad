pub mod Asked
pub mod ExitStatus
pub mod Texts
pub mod Told
