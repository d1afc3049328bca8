use Rattle.std.proofs.Common.{◌≡◌, ◌≢◌, ℕ, Bool, true, false, All, List, [], ◌∷◌, ◌++◌, codes, length, nat_eq, refl, sym, ap, subst, ◌∙◌}
use Rattle.std.proofs.lemmas.Bool.{eqb-true}
use Rattle.std.proofs.lemmas.List.{nil_from_length}
use Rattle.odd_cli.proofs.Commands.{never_aside, task_once}
use Rattle.odd_cli.specs.Words.{Asks, IsFileWord, IsTaskFirst, Task, WordsMean, command_of, command_word, of_chain, task_words, told, with_aside}
use Rattle.odd_cli.specs.declared.words.Job.{Job}
use Rattle.odd_cli.proofs.words.job_asked.Goals as goal
use Rattle.odd_cli.proofs.words.job_asked.Goals.{then-is_empty-via-then-is_empty, then-is_empty-via-else-is_empty+then-not-are_files}

not_empty : {A : Type 0} (xs : List A) → nat_eq (length xs) 0 ≡ false → xs ≢ []
not_empty xs is e = let no : true ≡ false = sym (ap (λ ys. nat_eq (length ys) 0) e) ∙ is in cc

module _ (words rest : List (List ℕ)) (aside : Bool) (are : words ≡ with_aside aside rest) (without : aside ≡ false → (others : List (List ℕ)) → words ≢ codes "aside" ∷ others) where
  -- the words after `aside` are those of any job
  same_words : (asked : Task) (other : Bool) (files : List (List ℕ)) → words ≡ with_aside other (task_words asked ++ files) → rest ≡ task_words asked ++ files
  same_words asked other files is = at aside other are is without
    where
      at : (a b : Bool) → words ≡ with_aside a rest → words ≡ with_aside b (task_words asked ++ files) → (a ≡ false → (others : List (List ℕ)) → words ≢ codes "aside" ∷ others)
          → rest ≡ task_words asked ++ files
      at true true one other none = let same : codes "aside" ∷ rest ≡ codes "aside" ∷ (task_words asked ++ files) = sym one ∙ other in cc
      at false false one other none = sym one ∙ other
      at true false one other none =
          let same : codes "aside" ∷ rest ≡ task_words asked ++ files = sym one ∙ other in
          let heads : codes "aside" ≡ command_word (command_of asked) = cc in
          absurd (never_aside (command_of asked) heads)
      at false true one other none = absurd (none refl (task_words asked ++ files) other)

  -- words that say nothing that is done have no job
  nothing_asked : ((asked : Task) (files : List (List ℕ)) → IsTaskFirst rest asked files → ⊥) → (job : Job) → WordsMean words job → ⊥
  nothing_asked none job (of_chain asked other files c e) = none asked files (record { words_are = same_words asked other files c.words_are; ident_words = c.ident_words })

  -- those that name files ask for what is done with them, and any others have no job
  module _ (asked : Task) (chain : List (List ℕ)) (first : IsTaskFirst rest asked chain) where
    asks : chain ≢ [] → All IsFileWord chain → Asks words asked aside chain
    asks some all = record { words_are = are ∙ ap (with_aside aside) first.words_are; some = some; ident_words = first.ident_words; file_words = all }

    no_job : (chain ≢ [] → All IsFileWord chain → ⊥) → (job : Job) → WordsMean words job → ⊥
    no_job none job (of_chain another other files c e) =
        let chains = (task_once asked another chain files (sym first.words_are ∙ same_words another other files c.words_are)).1 in
        none (λ empty. c.some (sym chains ∙ empty)) (subst (All IsFileWord) (sym chains) c.file_words)

pub returns-then-is_empty-clause-none : goal.returns-then-is_empty-clause-none
returns-then-is_empty-clause-none c _ =
    no_job c.args.words.now c.after_aside-aside.result.1.now c.after_aside-aside.result.0 (sym c.as_slice.ensures ∙ c.after_aside-aside.ensures.words)
    (λ is others e. c.after_aside-aside.ensures.without is others (c.as_slice.ensures ∙ e)) (told c.in_ok-task.task) c.in_ok-task.chain.now c.in_ok-task.ensures.some
    (λ some all. elim c.then-is_empty.branch [
      | then-is_empty-via-then-is_empty w ↦ some (nil_from_length c.in_ok-task.chain.now (eqb-true _ 0 (sym c.is_empty.ensures ∙ w.if-is_empty.true)))
      | then-is_empty-via-else-is_empty+then-not-are_files w ↦ let no : false ≡ true = sym w.if-not-are_files.true ∙ w.are_files.ensures.1 all in cc
    ])

pub returns-clause-asks : goal.returns-clause-asks
returns-clause-asks c =
    asks c.args.words.now c.after_aside-aside.result.1.now c.after_aside-aside.result.0 (sym c.as_slice.ensures ∙ c.after_aside-aside.ensures.words)
    (λ is others e. c.after_aside-aside.ensures.without is others (c.as_slice.ensures ∙ e)) (told c.in_ok-task.task) c.in_ok-task.chain.now c.in_ok-task.ensures.some
    (not_empty c.in_ok-task.chain.now (sym c.is_empty.ensures ∙ c.if-is_empty.false)) (c.are_files.ensures.0 c.if-not-are_files.false)
