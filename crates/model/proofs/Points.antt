-- Points: their order, that they are those within the limits, and what refusals 7, 8, 9 and 13 show.
pub mod EarlierLaws
pub mod LoopLaws
pub mod PointLaws
pub mod BoundLaws
pub mod WithinLaws
pub mod ArrayLaws
