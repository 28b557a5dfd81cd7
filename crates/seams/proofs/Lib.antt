pub mod RiseLaws
