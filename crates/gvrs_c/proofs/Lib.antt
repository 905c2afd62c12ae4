pub mod ReportLaws
pub mod DescriptionLaws
pub mod ExplanationLaws
pub mod RectangleLaws
pub mod CompareLaws
pub mod SaidLaws
