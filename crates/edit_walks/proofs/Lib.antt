pub mod AfterLaws
pub mod JoinLaws
pub mod SpotLaws
pub mod StoredLaws
