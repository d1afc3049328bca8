-- Each command has a word of its own, which is not that of `aside`, and words say one thing that is done.
use Rattle.std.proofs.Common.{◌≡◌, ℕ, List, ◌++◌, refl, ap}
use Rattle.std.specs.Cmp.Lexicographic.{other_text}
use Rattle.std.specs.Prelude.{codes}
use Rattle.odd_cli.specs.Words as task
use Rattle.odd_cli.specs.Words.{Task, command_of, command_word, task_words}
use Rattle.odd_cli.specs.declared.words.Command.{Command}
use Rattle.odd_cli.specs.declared.words.Command.TheVariants as command

pub command_once : (a b : Command) → command_word a ≡ command_word b → a ≡ b
command_once command.Merge command.Merge e = refl
command_once command.Merge command.Compile e = absurd (other_text (codes "merge") (codes "compile") refl e)
command_once command.Merge command.Explain e = absurd (other_text (codes "merge") (codes "explain") refl e)
command_once command.Compile command.Merge e = absurd (other_text (codes "compile") (codes "merge") refl e)
command_once command.Compile command.Compile e = refl
command_once command.Compile command.Explain e = absurd (other_text (codes "compile") (codes "explain") refl e)
command_once command.Explain command.Merge e = absurd (other_text (codes "explain") (codes "merge") refl e)
command_once command.Explain command.Compile e = absurd (other_text (codes "explain") (codes "compile") refl e)
command_once command.Explain command.Explain e = refl

pub never_aside : (a : Command) → codes "aside" ≡ command_word a → ⊥
never_aside command.Merge e = other_text (codes "aside") (codes "merge") refl e
never_aside command.Compile e = other_text (codes "aside") (codes "compile") refl e
never_aside command.Explain e = other_text (codes "aside") (codes "explain") refl e

-- of one command one thing is done
same_command : (a b : Task) (f g : List (List ℕ)) → command_of a ≡ command_of b → task_words a ++ f ≡ task_words b ++ g → (a ≡ b) × (f ≡ g)
same_command task.merge task.merge f g c e = (refl, cc)
same_command task.compile task.compile f g c e = (refl, cc)
same_command (task.explain x) (task.explain y) f g c e = let same : x ≡ y = cc in (ap task.explain same, cc)
same_command task.merge task.compile f g c e = cc
same_command task.merge (task.explain y) f g c e = cc
same_command task.compile task.merge f g c e = cc
same_command task.compile (task.explain y) f g c e = cc
same_command (task.explain x) task.merge f g c e = cc
same_command (task.explain x) task.compile f g c e = cc

pub task_once : (a b : Task) (f g : List (List ℕ)) → task_words a ++ f ≡ task_words b ++ g → (a ≡ b) × (f ≡ g)
task_once a b f g e = let heads : command_word (command_of a) ≡ command_word (command_of b) = cc in same_command a b f g (command_once (command_of a) (command_of b) heads) e
