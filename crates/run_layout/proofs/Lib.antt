pub mod LayingLaws
pub mod TypeNodes
pub mod LaidOut
pub mod BodyWalks
pub mod ReturnWalks
pub mod BodyReturns
