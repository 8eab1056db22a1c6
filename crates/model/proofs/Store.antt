-- The store against the plain machine.
pub mod PlaceLaws
pub mod RuleLaws
pub mod WholeRuleLaws
pub mod StoreLaws
pub mod NewStoreLaws
