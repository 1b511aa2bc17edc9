mod LengthLemmas
mod RewriteLemmas
