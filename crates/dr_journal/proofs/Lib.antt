mod FileParts
mod GateWalk
mod AppendedFile
mod AppendCalls
mod OpenedFile
mod NextRecord
mod Reader
mod OpeningWalk
pub mod Laws
