pub mod MailLaws
pub mod MailTrip
pub mod SealLaws
pub mod LineLaws
