mod RowLemmas
mod WordLemmas
mod ValueLemmas
