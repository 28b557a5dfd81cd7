-- A table turned over (document 02, E7): a part's volume before it is rounded (Exact), and what may be turned over and how closely it then agrees
-- (Mirrored). The laws, of parts, of a tank, and of a survey and its table, stand in proofs/. The request's four laws are `area_and_mirrored`, in the
-- room `circle`, `half_ellipsoids_mirrored`, `survey_mirrored` with `rows_mirrored`, and `end_to_end`.
pub mod Exact
pub mod Mirrored
pub mod EndToEndLaws
