-- Laws that the entries need of a text that is handed out.
pub mod AnswerLaws
pub mod DemandLaws
