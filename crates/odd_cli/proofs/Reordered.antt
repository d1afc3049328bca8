-- The reply of files is that of files that say the same in another order.
use Rattle.std.proofs.Common.{◌≡◌, ◌≤◌, ◌<◌, ℕ, suc, Bool, List, [], ◌∷◌, length, arith, refl, sym, ap, subst, inl, inr, ⊎_elim}
use Rattle.std.proofs.lemmas.Bool.{cases_lt}
use Rattle.odd_base.specs.Shelf.{FileMap}
use Rattle.odd_chain.specs.Files.{ChainOffends, Gives}
use Rattle.odd_chain.specs.Order.{Position}
use Rattle.odd_library.specs.declared.library.Library.{Library}
use Rattle.odd_tree.specs.declared.tree.Tree.{Tree}
use Rattle.order_laws.proofs.ReorderedChains.{reordered_gives}
use Rattle.order_laws.specs.Reorderings.{AreReorderings}
use Rattle.order_laws.specs.Reorderings as reorderings
use Rattle.odd_cli.proofs.Answering.{one_reply}
use Rattle.odd_cli.proofs.OneReply.{after, names_one, reading_one, words_one}
use Rattle.odd_cli.proofs.Serving.{each_formed}
use Rattle.odd_cli.specs.Order.{IsInAnyOrder, IsUnoffended, SayTheSame}
use Rattle.odd_cli.specs.Order as order
use Rattle.odd_cli.specs.Outcome.{Outcome, Then, answers, gives}
use Rattle.odd_cli.specs.Reply.{ChainComesTo, GiveTrees, HasText, Merges, NamesFiles, ReadsChain, Reply, TreesComeTo, WordsComeTo, all_spelled, answered, chain_files, done, merged, more, named, none, refused, too_many}
use Rattle.odd_cli.specs.Words.{Asks, Task}
use Rattle.odd_cli.specs.declared.status.LimitKind.TheVariants as limit
use Rattle.odd_cli.specs.declared.status.Status.{Status}
use Rattle.odd_cli.specs.declared.status.Status.TheVariants as status

-- files that say the same give trees that do
record GiveReorderings (files others : FileMap) (chain names : List (List ℕ)) : Type 0 where
  trees : List Tree
  there : List Tree
  given : GiveTrees files chain trees
  given_there : GiveTrees others names there
  reorderings : AreReorderings trees there
  many : length names ≡ length chain

trees_there : {files others : FileMap} {chain names : List (List ℕ)} → SayTheSame files others chain names → GiveReorderings files others chain names
trees_there order.none = record { trees = []; there = []; given = none; given_there = none; reorderings = reorderings.none; many = refl }
trees_there (order.more {t = t} {u = u} g h r rest) =
    let k = trees_there rest in
    record {
      trees = t ∷ k.trees;
      there = u ∷ k.there;
      given = more g k.given;
      given_there = more h k.given_there;
      reorderings = reorderings.more r k.reorderings;
      many = ap suc k.many;
    }

as_many : {trees there : List Tree} → AreReorderings trees there → length trees ≡ length there
as_many reorderings.none = refl
as_many (reorderings.more r rest) = ap suc (as_many rest)

-- a step that gives something, and what comes of that
then_on : {X Y Z : Type 0} (R : X → Outcome Y → Type 0) (S : Y → Outcome Z → Type 0) (x : X) (y : Y) (o : Outcome Z) → R x (gives y) → S y o → Then R S x o
then_on R S x y (answers s) r h = inr (y, r, h)
then_on R S x y (gives z) r h = (y, r, h)

-- trees without an offence have a library, and what they come to is what is made of it
record HasLibrary (asked : Task) (aside : Bool) (trees : List Tree) (o : Outcome (List ℕ)) : Type 0 where
  library : Library
  given : Gives aside trees library
  text : HasText asked (length trees) library o

library_of : (asked : Task) (aside : Bool) (trees : List Tree) (o : Outcome (List ℕ)) → ((file : ℕ) (at : Position) → ChainOffends aside trees file at → ⊥) → TreesComeTo asked aside trees o
    → HasLibrary asked aside trees o
library_of asked aside trees (answers s) sound (inl (refused r)) = absurd (sound _ r.at r.is_one)
library_of asked aside trees (answers s) sound (inr (library, merged g, h)) = record { library = library; given = g; text = h }
library_of asked aside trees (gives text) sound (library, merged g, h) = record { library = library; given = g; text = h }

module _ (asked : Task) {files others : FileMap} {aside : Bool} {chain names : List (List ℕ)} (same : SayTheSame files others chain names) (sound : IsUnoffended aside files chain) where
  -- what trees come to, reordered trees come to
  trees_on : (k : GiveReorderings files others chain names) (o : Outcome (List ℕ)) → TreesComeTo asked aside k.trees o → TreesComeTo asked aside k.there o
  trees_on k o come =
      let l = library_of asked aside k.trees o (λ file at. sound k.trees file at k.given) come in
      let g = reordered_gives (each_formed files chain k.trees k.given) (each_formed others names k.there k.given_there) k.reorderings l.given in
      then_on (Merges aside) (HasText asked (length k.there)) k.there l.library o (merged g) (subst (λ n. HasText asked n l.library o) (as_many k.reorderings) l.text)

  -- and so does a chain of files
  chain_on : (o : Outcome (List ℕ)) → ChainComesTo files (asked, aside, chain) o → ChainComesTo others (asked, aside, names) o
  chain_on o come =
      let k = trees_there same in
      let here = after (ReadsChain files) (TreesComeTo asked aside) (reading_one files) chain k.trees o (all_spelled k.given) come in
      then_on (ReadsChain others) (TreesComeTo asked aside) names k.there o (all_spelled k.given_there) (trees_on k o here)

  -- and what words come to, others that ask the same of the others come to
  words_on : {words there : List (List ℕ)} (o : Outcome (List ℕ)) → Asks words asked aside chain → Asks there asked aside names → WordsComeTo files words o → WordsComeTo others there o
  words_on {words} {there} o asks asks_there come = ⊎_elim many few (cases_lt chain_files (length chain))
    where
      as_few : length names ≡ length chain
      as_few = (trees_there same).many

      few : length chain ≤ chain_files → WordsComeTo others there o
      few h =
          let comes = after NamesFiles (ChainComesTo files) names_one words (asked, aside, chain) o (named asks h) come in
          then_on NamesFiles (ChainComesTo others) there (asked, aside, names) o (named asks_there (omega (arith, h, as_few))) (chain_on o comes)

      many : chain_files < length chain → WordsComeTo others there o
      many h =
          let it = words_one files words (answers (status.Limit limit.Files)) o (inl (too_many asked aside chain asks h)) come in
          subst (WordsComeTo others there) it (inl (too_many asked aside names asks_there (omega (arith, h, as_few))))

-- and so the reply is one
reply_on : {words there : List (List ℕ)} {files others : FileMap} (text : List ℕ) (s : Status) → ((o : Outcome (List ℕ)) → WordsComeTo files words o → WordsComeTo others there o)
    → Reply words files text s → Reply there others text s
reply_on text s on (answered come) = answered (on (answers s) come)
reply_on text s on (done come) = done (on (gives text) come)

pub in_any_order : (words : List (List ℕ)) (files : FileMap) (text : List ℕ) (s : Status) → Reply words files text s → IsInAnyOrder files words text s
in_any_order words files text s reply = record {
  same = λ others asked aside chain names there asks asks_there same sound other answer.
      let on = reply_on text s (λ o. words_on asked same sound o asks asks_there) reply in (
        λ r. one_reply there others other text answer s r on,
        λ e. subst (λ t. Reply there others t answer) (sym e.0) (subst (Reply there others text) (sym e.1) on),
      );
}
