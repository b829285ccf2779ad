-- What the promises of the calls rest on.
pub mod Questions
pub mod SeenWorlds
