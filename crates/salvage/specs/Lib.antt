pub mod Salvage
pub mod SalvageLaws
pub mod Report
pub mod ReportLaws
pub mod GoodLaws
pub mod FewLaws
