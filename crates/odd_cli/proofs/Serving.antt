-- What a run writes does what it is for: a schema accepts what is admitted, and a merged ODD takes the place of the first files of a chain.
use Rattle.std.proofs.Common.{◌≡◌, ◌≢◌, ◌≤◌, ◌+◌, ◌-◌, ℕ, suc, Bool, true, false, List, [], ◌∷◌, ◌++◌, append_assoc, length, length-append, arith, refl, sym, ap, subst, ◌∙◌, ⊎_elim, inl, inr}
use Rattle.odd_base.specs.Shelf.{FileMap}
use Rattle.odd_chain.proofs.Based.{among, behind, gives_on, place_of, refused_on}
use Rattle.odd_chain.proofs.WithAside.{gives_aside}
use Rattle.odd_chain.specs.Base.{SpellsBase, StandsFor}
use Rattle.odd_chain.specs.Files.{Gives}
use Rattle.odd_library.specs.declared.library.Library.{Library}
use Rattle.odd_reader.proofs.Formed.{spelled_formed}
use Rattle.odd_text.proofs.InList.{first_or_later, nothing_stands, stands_first, stands_later}
use Rattle.odd_text.specs.Standing.{StandsIn}
use Rattle.odd_tree.specs.Formed.{IsFormed}
use Rattle.odd_tree.specs.declared.tree.Tree.{Tree}
use Rattle.odd_cli.proofs.OneReply.{after, names_one, none_stops, odd_answers, one_asked, one_trees}
use Rattle.odd_cli.specs.Base.{IsBase, IsPut, moved_status}
use Rattle.odd_cli.specs.Outcome.{Then, answers, gives}
use Rattle.odd_cli.specs.Reply.{AskedFiles, ChainComesTo, FileGives, FileStops, GiveTrees, HasSchema, HasStart, HasText, IsRead, NamesFiles, ReadsChain, Reply, TreesComeTo, account, all_spelled, answered, asked_missing, chain_files, done, merged, more, named, none, not_held, not_xml, refused, start_held, start_missing, stops, too_deep, too_large, too_long}
use Rattle.odd_cli.specs.Running.{AcceptsIfSchema, AcceptsOfWords, ServesTrees, ServesWords}
use Rattle.odd_cli.specs.Words as task
use Rattle.odd_cli.specs.Words.{Asks, Task}
use Rattle.odd_cli.specs.declared.status.Status.{Status}

-- a schema accepts

trees_accept : (asked : Task) (aside : Bool) (trees : List Tree) (text : List ℕ) → ServesTrees asked aside trees text → AcceptsIfSchema asked aside trees text
trees_accept task.merge aside trees text s = tt
trees_accept task.compile aside trees text s = record { library = s.library; gives = s.gives; right = s.serves }
trees_accept (task.explain ident) aside trees text s = tt

pub accepts_of : (words : List (List ℕ)) (files : FileMap) (text : List ℕ) → ServesWords words files text → AcceptsOfWords words files text
accepts_of words files text s = record {
  asked = s.asked;
  aside = s.aside;
  chain = s.chain;
  asks = s.asks;
  within = s.within;
  trees = s.trees;
  given = s.given;
  right = trees_accept s.asked s.aside s.trees text s.serves;
}

-- a merged ODD takes the place of files: what they give, what the later files give, what their trees come to, and all of it one after another

-- files give as many trees as they are
as_many_given : (files : FileMap) (names : List (List ℕ)) (trees : List Tree) → GiveTrees files names trees → length trees ≡ length names
as_many_given files [] trees none = refl
as_many_given files (name ∷ names) trees (more {trees = ts} g gs) = ap suc (as_many_given files names ts gs)

-- each of them is formed
pub each_formed : (files : FileMap) (names : List (List ℕ)) (trees : List Tree) → GiveTrees files names trees → (t : Tree) → StandsIn trees t → (end : ℕ) × IsFormed 0 end t
each_formed files [] trees none t stands = absurd (nothing_stands t stands)
each_formed files (name ∷ names) trees (more {tree = u} {trees = us} g gs) t stands =
    ⊎_elim (λ e. (length g.bytes, subst (IsFormed 0 (length g.bytes)) (sym e) (spelled_formed g.bytes u g.given.spelled))) (λ later. each_formed files names us gs t later)
    (first_or_later u t us stands)

-- and what files and others after them give is what each of the two lists gives
given_parts : (files : FileMap) (first later : List (List ℕ)) (all : List Tree) → GiveTrees files (first ++ later) all
    → (ts us : List Tree) × (all ≡ ts ++ us) × GiveTrees files first ts × GiveTrees files later us
given_parts files [] later all g = ([], all, refl, none, g)
given_parts files (name ∷ first) later all (more {tree = t} {trees = rest} g gs) =
    let parts = given_parts files first later rest gs in
    (t ∷ parts.0, parts.1, ap (λ ts. t ∷ ts) parts.2, more g parts.3, parts.4)

-- a chain is not empty
some_files : (names : List (List ℕ)) → names ≢ [] → 1 ≤ length names
some_files [] some = absurd (some refl)
some_files (name ∷ names) some = omega arith

-- what stands in the front of a list stands in it
stands_in_front : {A : Type 0} (all front rest : List A) (x : A) → all ≡ front ++ rest → StandsIn front x → StandsIn all x
stands_in_front all front rest x e s = (s.0, s.1 ++ rest, e ∙ ap (λ xs. xs ++ rest) s.2 ∙ append_assoc s.0 (x ∷ s.1) rest)

-- the later files are as they were
module _ {files others : FileMap} {name text : List ℕ} {later : List (List ℕ)} (put : IsPut files others name text later) where
  still_read : (other bytes : List ℕ) → StandsIn later other → IsRead files other bytes → IsRead others other bytes
  still_read other bytes stands r = record { held = put.same other stands ∙ r.held; within = r.within }

  still_gives : (other : List ℕ) (t : Tree) → StandsIn later other → FileGives files other t → FileGives others other t
  still_gives other t stands g = record { bytes = g.bytes; is_read = still_read other g.bytes stands g.is_read; given = g.given }

  still_give : (names : List (List ℕ)) (ts : List Tree) → ((other : List ℕ) → StandsIn names other → StandsIn later other) → GiveTrees files names ts → GiveTrees others names ts
  still_give [] ts within none = none
  still_give (first ∷ names) ts within (more {tree = t} {trees = us} g gs) =
      more (still_gives first t (within first (stands_first first names)) g) (still_give names us (λ other stands. within other (stands_later first other names stands)) gs)

  -- one that stops does so with a number that is less
  still_stops : (by : ℕ) (other : List ℕ) (number : ℕ) (s : Status) → StandsIn later other → FileStops files other number s → FileStops others other (number - by) (moved_status by s)
  still_stops by other number s stands (not_held absent) = not_held (put.same other stands ∙ absent)
  still_stops by other number s stands (too_long long) = too_long (long.0, put.same other stands ∙ long.1, long.2)
  still_stops by other number s stands (not_xml bytes r x) = not_xml bytes (still_read other bytes stands r) x
  still_stops by other number s stands (too_deep bytes r d) = too_deep bytes (still_read other bytes stands r) d

-- what is written of a library is the same after fewer files
pub text_on : (asked : Task) (files fewer : ℕ) (library : Library) (text : List ℕ) → HasText asked files library (gives text) → HasText asked fewer library (gives text)
text_on task.merge files fewer library text h = h
text_on task.compile files fewer library text (same, start_held h, made) = (same, start_held h, made)
text_on (task.explain ident) files fewer library text (account a) = account a

-- and where nothing is, the offence of a start word tells of fewer files
schema_moves : (files by : ℕ) (library : Library) (s : Status) → Then (HasStart files) HasSchema library (answers s) → Then (HasStart (files - by)) HasSchema library (answers (moved_status by s))
schema_moves files by library s (inl (start_missing word least)) = inl (start_missing word least)
schema_moves files by library s (inr (same, start_held h, too_large large)) = inr (same, start_held h, too_large large)

text_moves : (asked : Task) (files by : ℕ) (library : Library) (s : Status) → HasText asked files library (answers s) → HasText asked (files - by) library (answers (moved_status by s))
text_moves task.merge files by library s h = absurd (odd_answers library s h)
text_moves task.compile files by library s h = schema_moves files by library s h
text_moves (task.explain ident) files by library s (asked_missing absent) = asked_missing absent

-- what trees come to where one tree stands for the first of them
module _ {aside : Bool} (asked : Task) (trees : List Tree) (tree : Tree) (library : Library) (some : 1 ≤ length trees) (g : Gives aside trees library)
    (stands : StandsFor library tree) (rest : List Tree) where
  fewer : length (trees ++ rest) - (length trees - 1) ≡ length (tree ∷ rest)
  fewer = omega (arith, length-append trees rest, some)

  trees_move : (s : Status) → TreesComeTo asked aside (trees ++ rest) (answers s) → TreesComeTo asked aside (tree ∷ rest) (answers (moved_status (length trees - 1) s))
  trees_move s (inl (refused {offence = offence} r)) = inl (refused (refused_on trees tree library some g stands rest offence r))
  trees_move s (inr (l, merged k, h)) = inr (
    l,
    merged (gives_on trees tree library some g stands rest l k),
    subst (λ n. HasText asked n l (answers (moved_status (length trees - 1) s))) fewer (text_moves asked (length (trees ++ rest)) (length trees - 1) l s h),
  )

  trees_on : (text : List ℕ) → TreesComeTo asked aside (trees ++ rest) (gives text) → TreesComeTo asked aside (tree ∷ rest) (gives text)
  trees_on text (l, merged k, h) = (l, merged (gives_on trees tree library some g stands rest l k), text_on asked (length (trees ++ rest)) (length (tree ∷ rest)) l text h)

-- The text spells a tree that stands for those of the first files, which are one or more, and is put under the name.
record Rebases (files others : FileMap) (name text : List ℕ) (first later : List (List ℕ)) (aside : Bool) : Type 0 where
  trees : List Tree
  given : GiveTrees files first trees
  library : Library
  library_is : Gives aside trees library
  base : SpellsBase library text
  put : IsPut files others name text later
  some : 1 ≤ length first

module _ {files others : FileMap} {name text : List ℕ} {first later : List (List ℕ)} {aside : Bool} (r : Rebases files others name text first later aside) where
  -- how many files it takes the place of beside one
  abbrev by : ℕ
  by = length r.trees - 1

  many : length r.trees ≡ length first
  many = as_many_given files first r.trees r.given

  some_trees : 1 ≤ length r.trees
  some_trees = omega (arith, many, r.some)

  base_given : FileGives others name r.base.tree
  base_given = record { bytes = text; is_read = record { held = r.put.held; within = r.put.within }; given = r.base.given }

  -- a chain that stops does so at a later file
  stops_on : (s : Status) → ReadsChain files (first ++ later) (answers s) → ReadsChain others (name ∷ later) (answers (moved_status by s))
  stops_on s (stops number other at stop) = elim (place_of first later at.earlier other at.later at.parts) [
    | behind m e p ↦
        let parts = given_parts files first m at.trees (subst (λ names. GiveTrees files names at.trees) e at.given) in
        let count : length at.earlier ≡ length first + length m = ap length e ∙ length-append first m in
        stops (number - by) other (record {
          earlier = name ∷ m;
          later = at.later;
          parts = ap (λ names. name ∷ names) p;
          numbered = omega (arith, count, many, r.some, at.numbered);
          trees = r.base.tree ∷ parts.1;
          given = more base_given (still_give r.put m parts.1 (λ x. stands_in_front later m (other ∷ at.later) x p) parts.4);
        }) (still_stops r.put by other number s (m, at.later, p) stop)
    | among m e ↦ absurd (none_stops files first r.trees other number s r.given (at.earlier, m, e) stop)
  ]

  -- and where each file of a chain gives its tree, the trees go on from those of the first files
  rest_given : (all : List Tree) → GiveTrees files (first ++ later) all → (rest : List Tree) × (all ≡ r.trees ++ rest) × GiveTrees others (name ∷ later) (r.base.tree ∷ rest)
  rest_given all g =
      let parts = given_parts files first later all g in
      let same : parts.0 ≡ r.trees = one_trees files first parts.0 r.trees parts.3 r.given in
      (parts.1, parts.2 ∙ ap (λ ts. ts ++ parts.1) same, more base_given (still_give r.put later parts.1 (λ other stands. stands) parts.4))

  -- what is written of a chain
  module _ (asked : Task) where
    chain_moves : (s : Status) → ChainComesTo files (asked, aside, first ++ later) (answers s) → ChainComesTo others (asked, aside, name ∷ later) (answers (moved_status by s))
    chain_moves s (inl stop) = inl (stops_on s stop)
    chain_moves s (inr (all, all_spelled g, come)) =
        let on = rest_given all g in
        let here = subst (λ ts. TreesComeTo asked aside ts (answers s)) on.1 come in
        inr (r.base.tree ∷ on.0, all_spelled on.2, trees_move asked r.trees r.base.tree r.library some_trees r.library_is r.base.stands on.0 s here)

    chain_on : (reply : List ℕ) → ChainComesTo files (asked, aside, first ++ later) (gives reply) → ChainComesTo others (asked, aside, name ∷ later) (gives reply)
    chain_on reply (all, all_spelled g, come) =
        let on = rest_given all g in
        let here = subst (λ ts. TreesComeTo asked aside ts (gives reply)) on.1 come in
        (r.base.tree ∷ on.0, all_spelled on.2, trees_on asked r.trees r.base.tree r.library some_trees r.library_is r.base.stands on.0 reply here)

    -- the base and the later files are no more files
    base_named : (base : List (List ℕ)) → Asks base asked aside (name ∷ later) → length (first ++ later) ≤ chain_files → NamesFiles base (gives (asked, aside, name ∷ later))
    base_named base asks few = named asks (omega (arith, few, length-append first later, r.some))

    -- words that name the files have the reply of words that name the base in their place
    reply_on : (words base : List (List ℕ)) (reply : List ℕ) (s : Status) → Asks words asked aside (first ++ later) → Asks base asked aside (name ∷ later)
        → length (first ++ later) ≤ chain_files → Reply words files reply s → Reply base others reply (moved_status by s)
    reply_on words base reply s asks base_asks few (answered come) =
        let chain = after NamesFiles (ChainComesTo files) names_one words (asked, aside, first ++ later) (answers s) (named asks few) come in
        answered (inr ((asked, aside, name ∷ later), base_named base base_asks few, chain_moves s chain))
    reply_on words base reply s asks base_asks few (done come) =
        let chain = after NamesFiles (ChainComesTo files) names_one words (asked, aside, first ++ later) (gives reply) (named asks few) come in
        done ((asked, aside, name ∷ later), base_named base base_asks few, chain_on reply chain)

-- trees that are read without `aside` and have no offence have none with it
gives_too : (aside asked_aside : Bool) (trees : List Tree) (library : Library) → ((t : Tree) → StandsIn trees t → (end : ℕ) × IsFormed 0 end t)
    → (aside ≡ true → asked_aside ≡ true) → Gives aside trees library → Gives asked_aside trees library
gives_too true true trees library formed too g = g
gives_too false false trees library formed too g = g
gives_too false true trees library formed too g = gives_aside trees library formed g
gives_too true false trees library formed too g = let no : false ≡ true = too refl in let never : ⊥ = cc in absurd never

-- what a text does, of the files that were asked for
abbrev ServesAsked : FileMap → List ℕ → AskedFiles → Type 0
ServesAsked files text asked = (trees : List Tree) × GiveTrees files asked.2 trees × ServesTrees asked.0 asked.1 trees text

serves_asked : (words : List (List ℕ)) (files : FileMap) (text : List ℕ) (asked : Task) (aside : Bool) (chain : List (List ℕ)) → Asks words asked aside chain → ServesWords words files text
    → ServesAsked files text (asked, aside, chain)
serves_asked words files text asked aside chain asks s =
    subst (ServesAsked files text) (one_asked words s.asked asked s.aside aside s.chain chain s.asks asks) (s.trees, s.given, s.serves)

pub base_of : (words : List (List ℕ)) (files : FileMap) (aside : Bool) (first : List (List ℕ)) (text : List ℕ) → Asks words task.merge aside first → ServesWords words files text
    → IsBase files aside first text
base_of words files aside first text asks s =
    let of = serves_asked words files text task.merge aside first asks s in
    let many = as_many_given files first of.0 of.1 in
    record {
      same = λ others name later chain base asked asked_aside reply status put too chain_asks base_asks few replied.
          let whole : Rebases files others name text first later asked_aside = record {
            trees = of.0;
            given = of.1;
            library = of.2.library;
            library_is = gives_too aside asked_aside of.0 of.2.library (each_formed files first of.0 of.1) too of.2.gives;
            base = of.2.serves;
            put = put;
            some = some_files first asks.some;
          } in
          subst (λ n. Reply base others reply (moved_status (n - 1) status)) many (reply_on whole asked chain base reply status chain_asks base_asks few replied);
    }
