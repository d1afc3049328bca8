-- The first offence of a library, from the first by some of its rules where no rule before these is broken.
use Rattle.std.proofs.Common.{◌<◌, ◌+◌, ℕ, inl, inr, arith}
use Rattle.std.proofs.lemmas.Bool.{cases_lt}
use Rattle.odd_library.specs.declared.library.Library.{Library}
use Rattle.odd_meaning.specs.Rules.{Breaks, BreaksWithin, IsFirstBreak}
use Rattle.odd_text.specs.declared.key.Key.{Key}

module _ (library : Library) where
  -- no rule before this one is broken
  abbrev pub NoneBefore : ℕ → Type 0
  NoneBefore next = (key : Key) (rule : ℕ) → Breaks library key rule → rule < next → ⊥

  -- none of the rules from the first to the last
  abbrev pub NoneWithin : ℕ → ℕ → Type 0
  NoneWithin low high = (key : Key) (rule : ℕ) → BreaksWithin low high library key rule → ⊥

  -- at first there is none, since the rules are numbered from 11 on
  pub none_at_first : NoneBefore 11
  none_at_first key rule breaks less = grind arith

  -- where none of some more is, none before the next is
  pub none_so_far : (low high : ℕ) → NoneBefore low → NoneWithin low high → NoneBefore (high + 1)
  none_so_far low high before within key rule breaks less =
      elim (cases_lt rule low) [
        | inl lt ↦ before key rule breaks lt
        | inr ge ↦ within key rule (breaks, omega arith, omega arith)
      ]

  -- where each check before one found none, no rule before its own is broken
  module _ (no_macro : NoneWithin 11 11) where
    pub before_datatypes : NoneBefore 12
    before_datatypes = none_so_far 11 11 none_at_first no_macro

    module _ (no_datatype : NoneWithin 12 12) where
      pub before_cycles : NoneBefore 13
      before_cycles = none_so_far 12 12 before_datatypes no_datatype

      module _ (no_cycle : NoneWithin 13 14) where
        pub before_offers : NoneBefore 15
        before_offers = none_so_far 13 14 before_cycles no_cycle

        module _ (no_offer : NoneWithin 15 16) where
          pub before_classes : NoneBefore 17
          before_classes = none_so_far 15 16 before_offers no_offer

          pub before_data : NoneWithin 17 17 → NoneBefore 18
          before_data no_class = none_so_far 17 17 before_classes no_class

          -- and where none of them found any, none is
          pub none_at_all : NoneWithin 17 17 → NoneWithin 18 18 → (key : Key) (rule : ℕ) → Breaks library key rule → ⊥
          none_at_all no_class no_data key rule breaks = none_so_far 18 18 (before_data no_class) no_data key rule breaks (last breaks)
            where
              last : {rule : ℕ} → Breaks library key rule → rule < 19
              last breaks = grind arith

  -- the first of these rules is the first of all
  pub first_of_all : (low high : ℕ) → NoneBefore low → (key : Key) (rule : ℕ) → IsFirstBreak (BreaksWithin low high library) key rule → IsFirstBreak (Breaks library) key rule
  first_of_all low high before key rule is = record {
    is_one = is.is_one.0;
    first = λ other others breaks.
        let within = is.is_one.2 in
        elim (cases_lt others low) [
          | inl lt ↦ absurd (before other others breaks lt)
          | inr ge ↦ elim (cases_lt high others) [
            | inl lt ↦ inl (omega arith)
            | inr le ↦ is.first other others (breaks, omega arith, omega arith)
          ]
        ];
  }
