pub mod Runs
pub mod Jobs
pub mod PlannedClients
pub mod Clienteles
pub mod ServeRuns
pub mod Works
pub mod ServeJournals
pub mod Serving
