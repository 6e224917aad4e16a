-- Two facts of which both hold or neither. Assumes nothing.

pub record ExactlyWhen (A B : Type 0) : Type 0 where
  pub only : A → B
  pub whenever : B → A
