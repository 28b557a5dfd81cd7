pub mod NearestLaws
pub mod RootLaws
pub mod FractionRootLaws
pub mod HalfLaws
pub mod SignedLaws
