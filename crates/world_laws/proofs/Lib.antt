pub mod CommandRaws
pub mod Joined
pub mod EachVerb
pub mod Reached
mod Spending
pub mod Lasting
pub mod Quiet
pub mod OneBlock
pub mod LinkHears
pub mod ServerRun
pub mod ImageRound
pub mod RoundVerbs
pub mod ImageTaken
pub mod Recovered
pub mod Finish
mod Runs
mod Missing
mod LinkPieces
mod GapHears
mod ProxyRun
mod ProxyVerbs
mod ProxyRound
mod Asked
mod Brought
mod GapPassed
mod ProxyRounds
mod Heartbeat
mod Examples
