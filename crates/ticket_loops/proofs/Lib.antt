-- Loops that are laid and read back, then what reading lays.
pub mod PutLaws
pub mod AffineLaws
pub mod LimitLaws
pub mod LoopLaws
pub mod NestLaws
pub mod WriteLaws
pub mod SideLaws
pub mod ReadLaws
