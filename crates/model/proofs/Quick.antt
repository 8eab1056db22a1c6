-- The quick test is sound, and says 'apart' exactly on its rule.
pub mod QuickRangeLaws
pub mod QuickLaws
pub mod QuickRuleLaws
