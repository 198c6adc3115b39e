pub mod KindLaws
pub mod PrintedKinds
pub mod ReportLaws
pub mod RunsLaws
pub mod WholeLaws
pub mod ReadingLaws
pub mod WrittenCertificates
pub mod StorableParts
