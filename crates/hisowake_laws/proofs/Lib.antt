-- The C calls by the sampler's, and the number that they never answer.
pub mod WordLaws
pub mod SamplerLaws
pub mod CountLaws
pub mod NumberLaws
