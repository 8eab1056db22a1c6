-- The plain machine: conflicts, instances and their order, directions, and runs in another order.
pub mod ElementLaws
pub mod InstanceLaws
pub mod DirectionLaws
pub mod ReorderLaws
pub mod CommuteLaws
pub mod SameRunLaws
pub mod OrderedRunLaws
