-- Each step of a reply has one outcome, and so have all of them one after another; and where words and files are sound it is no status.
use Rattle.std.proofs.Common.{◌≡◌, ℕ, Bool, true, false, List, [], ◌∷◌, ◌++◌, append_assoc, length, arith, refl, sym, ap, subst, subst₂, ◌∙◌, ⊎_elim, suc, inl, inr, ◌≤◌, ◌<◌}
use Rattle.std.proofs.lemmas.Cmp.{nat_list_cmp_total}
use Rattle.std.proofs.lemmas.List.{append_cancel_right}
use Rattle.std.proofs.lemmas.Option.{same_Some}
use Rattle.std.specs.FinMap.{slice_cmp-IsAntisymmetric, nat_cmp-IsAntisymmetric}
use Rattle.std.specs.Prelude.{codes}
use Rattle.compile_core.proofs.OneGrammarOf.{one_grammar_of}
use Rattle.compile_core.proofs.SchemaText.{one_schema_text}
use Rattle.compile_core.specs.Schema.{HasLargeSchema, IsLeastMissing, IsSchema, IsTooLarge}
use Rattle.compile_defines.specs.Compiled.{HoldsStart}
use Rattle.odd_base.specs.Shelf.{FileMap, IsTooLong, NotHeld}
use Rattle.odd_chain.proofs.Files.{gives_one, one_chain_refusal, refused_gives_none}
use Rattle.odd_chain.specs.Files.{Gives}
use Rattle.odd_text.proofs.SetOf.{neither_below}
use Rattle.odd_library.specs.declared.library.Library.{Library}
use Rattle.odd_reader.proofs.Places.{one_depth, one_fault}
use Rattle.odd_reader.proofs.Refusing.{gives_not_deep, one_tree}
use Rattle.odd_text.specs.Text.{text_cmp}
use Rattle.odd_text.proofs.InList.{Stands, first_or_later, nothing_stands, stands_around}
use Rattle.odd_text.specs.Standing.{StandsIn}
use Rattle.odd_tree.specs.Spelled.{DepthPlace, IsNotXml, Spells}
use Rattle.odd_tree.specs.declared.tree.Tree.{Tree}
use Rattle.rng_grammar.specs.declared.grammar.Grammar.{Grammar}
use Rattle.compile_core.proofs.OneAccount.{one_account}
use Rattle.odd_cli.proofs.Commands.{never_aside, task_once}
use Rattle.odd_cli.specs.Outcome.{Outcome, Then, IsOne, answers, gives}
use Rattle.odd_cli.specs.Reading.{IsOfFile, IsOfTrees}
use Rattle.odd_cli.specs.Reply.{FileGives, FileStops, GiveTrees, IsReached, IsRead, file_bytes, more, none, not_held, not_xml, too_deep, too_long, AskedFiles, HasAccount, HasMergedOdd, HasSchema, HasStart, HasText, Merges, NamesFiles, ChainComesTo, ReadsChain, Reply, TreesComeTo, WordsComeTo, account, all_spelled, answered, asked_missing, done, merged, named, no_job, refused, schema, start_held, start_missing, start_offence, stops, too_large, too_many}
use Rattle.odd_cli.specs.Running.{IsCompiled, IsFitFor, IsSilent, IsSound}
use Rattle.odd_cli.specs.Words as task
use Rattle.odd_cli.specs.Words.{Asks, Task, WordsMean, command_of, command_word, of_chain, task_words, with_aside}
use Rattle.odd_cli.specs.declared.status.LimitKind.TheVariants as limit
use Rattle.odd_cli.specs.declared.status.Status.{Status}
use Rattle.odd_cli.specs.declared.status.Status.TheVariants as status
use Rattle.odd_cli.specs.declared.words.Job.{Job}

-- a file that is read is held, and not too long
read_absent : (files : FileMap) (name b : List ℕ) → IsRead files name b → NotHeld files name → ⊥
read_absent files name b r absent = let held = r.held in cc

read_long : (files : FileMap) (name b : List ℕ) → IsRead files name b → IsTooLong files name file_bytes → ⊥
read_long files name b r long = omega (arith, r.within, ap length (same_Some b long.0 (sym r.held ∙ long.1)), long.2)

-- what is said of its bytes is said of them as they are read again
again : (files : FileMap) (name b c : List ℕ) (Is : List ℕ → Type 0) → IsRead files name b → IsRead files name c → Is b → Is c
again files name b c Is r q = subst Is (same_Some b c (sym r.held ∙ q.held))

module _ (files : FileMap) where
  not_xml_again : (name b c : List ℕ) (place : ℕ) → IsRead files name b → IsRead files name c → IsNotXml b place → IsNotXml c place
  not_xml_again name b c place = again files name b c (λ bytes. IsNotXml bytes place)

  deep_again : (name b c : List ℕ) (place : ℕ) → IsRead files name b → IsRead files name c → DepthPlace b place → DepthPlace c place
  deep_again name b c place = again files name b c (λ bytes. DepthPlace bytes place)

  -- a file of a number stops in one way
  one_stop : (name : List ℕ) (n : ℕ) (s r : Status) → FileStops files name n s → FileStops files name n r → s ≡ r
  one_stop name n s r (not_held a) (not_held b) = refl
  one_stop name n s r (not_held a) (too_long l) = cc
  one_stop name n s r (not_held a) (not_xml b i x) = absurd (read_absent files name b i a)
  one_stop name n s r (not_held a) (too_deep b i d) = absurd (read_absent files name b i a)
  one_stop name n s r (too_long l) (not_held a) = cc
  one_stop name n s r (too_long l) (too_long m) = refl
  one_stop name n s r (too_long l) (not_xml b i x) = absurd (read_long files name b i l)
  one_stop name n s r (too_long l) (too_deep b i d) = absurd (read_long files name b i l)
  one_stop name n s r (not_xml b i x) (not_held a) = absurd (read_absent files name b i a)
  one_stop name n s r (not_xml b i x) (too_long l) = absurd (read_long files name b i l)
  one_stop name n s r (not_xml {place = p} b i x) (not_xml {place = q} c j y) = ap (status.NotXml n) (one_fault c p q (not_xml_again name b c p i j x).fault y.fault)
  one_stop name n s r (not_xml {place = p} b i x) (too_deep {place = q} c j d) = absurd ((not_xml_again name b c p i j x).not_deep q d)
  one_stop name n s r (too_deep b i d) (not_held a) = absurd (read_absent files name b i a)
  one_stop name n s r (too_deep b i d) (too_long l) = absurd (read_long files name b i l)
  one_stop name n s r (too_deep {place = p} b i d) (not_xml {place = q} c j x) = absurd (x.not_deep p (deep_again name b c p i j d))
  one_stop name n s r (too_deep {place = p} b i d) (too_deep {place = q} c j f) = ap (λ x. status.Limit (limit.Depth n x)) (one_depth c p q (deep_again name b c p i j d) f)

  -- and where it gives a tree, it does not stop
  gives_or_stops : (name : List ℕ) (n : ℕ) (t : Tree) (s : Status) → FileGives files name t → FileStops files name n s → ⊥
  gives_or_stops name n t s g (not_held a) = read_absent files name g.bytes g.is_read a
  gives_or_stops name n t s g (too_long l) = read_long files name g.bytes g.is_read l
  gives_or_stops name n t s g (not_xml {place = p} b i x) = (not_xml_again name b g.bytes p i g.is_read x).fault.spells_none t g.given.spelled
  gives_or_stops name n t s g (too_deep {place = p} b i d) = gives_not_deep g.bytes t p g.given (deep_again name b g.bytes p i g.is_read d)

  -- files give their trees alone
  pub one_trees : (names : List (List ℕ)) (ts us : List Tree) → GiveTrees files names ts → GiveTrees files names us → ts ≡ us
  one_trees [] ts us none none = refl
  one_trees (name ∷ names) ts us (more {tree = t} {trees = xs} g gs) (more {tree = u} {trees = ys} h hs) =
      let spelled = again files name g.bytes h.bytes (λ bytes. Spells bytes t) g.is_read h.is_read g.given.spelled in
      λ i. one_tree h.bytes t u spelled h.given.spelled i ∷ one_trees names xs ys gs hs i

  -- each of the files gives one of them
  gives_each : (names : List (List ℕ)) (ts : List Tree) (name : List ℕ) → GiveTrees files names ts → StandsIn names name → (t : Tree) × FileGives files name t
  gives_each [] ts name none s = absurd (nothing_stands name s)
  gives_each (first ∷ names) ts name (more {tree = t} {trees = us} g gs) s =
      ⊎_elim (λ e. (t, subst (λ x. FileGives files x t) (sym e) g)) (λ later. gives_each names us name gs later) (first_or_later first name names s)

  -- none of them stops
  pub none_stops : (names : List (List ℕ)) (ts : List Tree) (name : List ℕ) (n : ℕ) (s : Status) → GiveTrees files names ts → StandsIn names name → FileStops files name n s → ⊥
  none_stops names ts name n s gs stands stop = let each = gives_each names ts name gs stands in gives_or_stops name n each.0 s each.1 stop

  -- a chain stops at one of its files, and in one way
  pub stops_once : (chain : List (List ℕ)) (m n : ℕ) (name other : List ℕ) (s r : Status) → IsReached files chain m name → IsReached files chain n other
      → FileStops files name m s → FileStops files other n r → s ≡ r
  stops_once chain m n name other s r a b h k = elim (stands_around a.earlier name a.later b.earlier other b.later (sym a.parts ∙ b.parts)) [
    | Stands.before c i ↦ absurd (none_stops a.earlier a.trees other n r a.given (b.earlier, c, i) k)
    | Stands.here i e ↦
        let numbers : m ≡ n = a.numbered ∙ ap (λ xs. suc (length xs)) i ∙ sym b.numbered in
        one_stop other n s r (subst₂ (λ (x : List ℕ) (y : ℕ). FileStops files x y s) e numbers h) k
    | Stands.after c i ↦
        let before : a.earlier ++ name ∷ c ≡ b.earlier = append_cancel_right (a.earlier ++ name ∷ c) b.earlier (other ∷ b.later)
        (append_assoc a.earlier (name ∷ c) (other ∷ b.later) ∙ ap (λ xs. a.earlier ++ name ∷ xs) (sym i) ∙ sym a.parts ∙ b.parts) in
        absurd (none_stops b.earlier b.trees name m s b.given (a.earlier, c, sym before) h)
  ]

-- what is given, and what is answered
abbrev given_of : {Y : Type 0} → Y → Outcome Y → Y
given_of other (answers s) = other
given_of other (gives y) = y

abbrev answer_of : {Y : Type 0} → Status → Outcome Y → Status
answer_of other (answers s) = s
answer_of other (gives y) = other

module _ {X Y Z : Type 0} (R : X → Outcome Y → Type 0) (S : Y → Outcome Z → Type 0) (one : IsOne R) where
  -- what is given is given once
  given_once : (x : X) (y z : Y) → R x (gives y) → R x (gives z) → y ≡ z
  given_once x y z r q = ap (given_of y) (one x (gives y) (gives z) r q)

  -- where something is given nothing is answered
  not_both : (x : X) (y : Y) (s : Status) → R x (gives y) → R x (answers s) → ⊥
  not_both x y s r q = let no = one x (gives y) (answers s) r q in cc

  -- once something is given, all goes on from there
  pub after : (x : X) (y : Y) (o : Outcome Z) → R x (gives y) → Then R S x o → S y o
  after x y (answers s) r (inl q) = absurd (not_both x y s r q)
  after x y (answers s) r (inr q) = subst (λ v. S v (answers s)) (given_once x q.0 y q.1 r) q.2
  after x y (gives z) r q = subst (λ v. S v (gives z)) (given_once x q.0 y q.1 r) q.2

  then_one : IsOne S → IsOne (Then R S)
  then_one other x (answers s) (answers t) (inl r) (inl q) = ap answers (ap (answer_of s) (one x (answers s) (answers t) r q))
  then_one other x (answers s) (answers t) (inl r) (inr q) = absurd (not_both x q.0 s q.1 r)
  then_one other x (answers s) (gives z) (inl r) q = absurd (not_both x q.0 s q.1 r)
  then_one other x (answers s) p (inr r) q = other r.0 (answers s) p r.2 (after x r.0 p r.1 q)
  then_one other x (gives z) p r q = other r.0 (gives z) p r.2 (after x r.0 p r.1 q)

-- words ask for what is done with one chain, with `aside` or without
same_asked : (c d : Task) (f g : List (List ℕ)) (x : Bool) → task_words c ++ f ≡ task_words d ++ g → ◌≡◌ {A = AskedFiles} (c, x, f) (d, x, g)
same_asked c d f g x e = let same = task_once c d f g e in λ i. (same.0 i, x, same.1 i)

pub one_asked : (words : List (List ℕ)) (c d : Task) (a b : Bool) (f g : List (List ℕ)) → Asks words c a f → Asks words d b g → ◌≡◌ {A = AskedFiles} (c, a, f) (d, b, g)
one_asked words c d a b f g p q = same a b (sym p.words_are ∙ q.words_are)
  where
    same : (x y : Bool) → with_aside x (task_words c ++ f) ≡ with_aside y (task_words d ++ g) → ◌≡◌ {A = AskedFiles} (c, x, f) (d, y, g)
    same true true e = let tails : task_words c ++ f ≡ task_words d ++ g = cc in same_asked c d f g true tails
    same false false e = same_asked c d f g false e
    same true false e = let no : codes "aside" ≡ command_word (command_of d) = cc in absurd (never_aside (command_of d) no)
    same false true e = let no : codes "aside" ≡ command_word (command_of c) = cc in absurd (never_aside (command_of c) no)

-- so the words name the files of one chain
pub one_chain : (words : List (List ℕ)) (c d : Task) (a b : Bool) (f g : List (List ℕ)) → Asks words c a f → Asks words d b g → f ≡ g
one_chain words c d a b f g p q = ap (λ (x : AskedFiles). x.2) (one_asked words c d a b f g p q)

-- words that name files have a job
pub no_job_but : (words : List (List ℕ)) (c : Task) (a : Bool) (chain : List (List ℕ)) → ((job : Job) → WordsMean words job → ⊥) → Asks words c a chain → ⊥
no_job_but words c a chain without asks = without _ (of_chain c a chain asks refl)

-- and no chain is both too long and not
many_but : (words : List (List ℕ)) (c d : Task) (a b : Bool) (f g : List (List ℕ)) → Asks words c a f → Asks words d b g → 16 < length f → length g ≤ 16 → ⊥
many_but words c d a b f g p q long short = omega (arith, long, short, ap length (one_chain words c d a b f g p q))

pub names_one : IsOne NamesFiles
names_one words o p (no_job n) (no_job m) = refl
names_one words o p (no_job n) (too_many d b g q l) = absurd (no_job_but words d b g n q)
names_one words o p (no_job n) (named {asked = d} {aside = b} {chain = g} q l) = absurd (no_job_but words d b g n q)
names_one words o p (too_many c a f k l) (no_job n) = absurd (no_job_but words c a f n k)
names_one words o p (too_many c a f k l) (too_many d b g q m) = refl
names_one words o p (too_many c a f k l) (named {asked = d} {aside = b} {chain = g} q m) = absurd (many_but words c d a b f g k q l m)
names_one words o p (named {asked = c} {aside = a} {chain = f} k l) (no_job n) = absurd (no_job_but words c a f n k)
names_one words o p (named {asked = c} {aside = a} {chain = f} k l) (too_many d b g q m) = absurd (many_but words d c b a g f q k m l)
names_one words o p (named {asked = c} {aside = a} {chain = f} k l) (named {asked = d} {aside = b} {chain = g} q m) = ap gives (one_asked words c d a b f g k q)

pub reading_one : (files : FileMap) → IsOne (ReadsChain files)
reading_one files chain o p (stops {s = s} m name a h) (stops {s = r} n other b k) = ap answers (stops_once files chain m n name other s r a b h k)
reading_one files chain o p (stops {s = s} n name a h) (all_spelled {trees = ts} g) = absurd (none_stops files chain ts name n s g (a.earlier, a.later, a.parts) h)
reading_one files chain o p (all_spelled {trees = ts} g) (stops {s = s} n name a h) = absurd (none_stops files chain ts name n s g (a.earlier, a.later, a.parts) h)
reading_one files chain o p (all_spelled {trees = ts} g) (all_spelled {trees = us} h) = ap gives (one_trees files chain ts us g h)

-- the least of some words is one word
one_least : (library : Library) (start : List (List ℕ)) (v w : List ℕ) → IsLeastMissing library start v → IsLeastMissing library start w → v ≡ w
one_least library start v w p q =
    neither_below text_cmp nat_list_cmp_total (slice_cmp-IsAntisymmetric nat_cmp-IsAntisymmetric) v w (q.least v p.among p.missing) (p.least w q.among q.missing)

held_but : (l : Library) (word : List ℕ) → IsLeastMissing l l.start word → HoldsStart l l.start → ⊥
held_but l word least h = h word least.among least.missing

-- trees have one library, or one first offence
merges_one : (aside : Bool) → IsOne (Merges aside)
merges_one aside trees o p (refused {offence = a} r) (refused {offence = b} q) = ap (λ x. answers (status.Refused x)) (one_chain_refusal trees a b r q)
merges_one aside trees o p (refused {offence = a} r) (merged {library = m} k) = absurd (refused_gives_none trees a m r k)
merges_one aside trees o p (merged {library = l} g) (refused {offence = a} r) = absurd (refused_gives_none trees a l r g)
merges_one aside trees o p (merged {library = l} g) (merged {library = m} k) = ap gives (gives_one trees l m g k)

-- a library holds its start words, or lacks one least of them
start_one : (files : ℕ) → IsOne (HasStart files)
start_one files l o p (start_missing v d) (start_missing w e) = ap (λ x. answers (status.Refused (start_offence files x))) (one_least l l.start v w d e)
start_one files l o p (start_missing v d) (start_held h) = absurd (held_but l v d h)
start_one files l o p (start_held h) (start_missing w e) = absurd (held_but l w e h)
start_one files l o p (start_held h) (start_held k) = refl

-- a library whose schema passes a limit has none that passes none
large_but : (l : Library) (g : Grammar) → HasLargeSchema l l.start → IsSchema l l.start g → ⊥
large_but l g p q = q.within (subst IsTooLarge (one_grammar_of l l.start p.grammar g p.is_grammar q.is_grammar) p.too_large)

schema_one : IsOne HasSchema
schema_one l o p (too_large a) (too_large b) = refl
schema_one l o p (too_large a) (schema g i e) = absurd (large_but l g a i)
schema_one l o p (schema g i e) (too_large a) = absurd (large_but l g a i)
schema_one l o p (schema g i e) (schema h j f) = ap gives (one_schema_text l l.start _ _ e f)

odd_one : IsOne HasMergedOdd
odd_one l o p HasMergedOdd.printed HasMergedOdd.printed = refl

-- an element that is held has one account
account_one : (ident : List ℕ) (files : ℕ) → IsOne (HasAccount ident files)
account_one ident files l o p (asked_missing absent) (asked_missing also) = refl
account_one ident files l o p (asked_missing absent) (account {text = text} a) = absurd (absent (a.part, a.held))
account_one ident files l o p (account {text = text} a) (asked_missing absent) = absurd (absent (a.part, a.held))
account_one ident files l o p (account {text = text} a) (account {text = other} b) = ap gives (one_account l ident text other a b)

text_one : (asked : Task) (files : ℕ) → IsOne (HasText asked files)
text_one task.merge files = odd_one
text_one task.compile files = then_one (HasStart files) HasSchema (start_one files) schema_one
text_one (task.explain ident) files = account_one ident files

pub trees_one : (asked : Task) (aside : Bool) → IsOne (TreesComeTo asked aside)
trees_one asked aside trees = then_one (Merges aside) (HasText asked (length trees)) (merges_one aside) (text_one asked (length trees)) trees

chain_comes_one : (files : FileMap) → IsOne (ChainComesTo files)
chain_comes_one files asked = then_one (ReadsChain files) (TreesComeTo asked.0 asked.1) (reading_one files) (trees_one asked.0 asked.1) asked.2

pub words_one : (files : FileMap) → IsOne (WordsComeTo files)
words_one files = then_one NamesFiles (ChainComesTo files) names_one (chain_comes_one files)

-- a file answers with its number
pub of_file : (files : FileMap) (name : List ℕ) (number : ℕ) (s : Status) → FileStops files name number s → IsOfFile number s
of_file files name number s (not_held a) = refl
of_file files name number s (too_long l) = refl
of_file files name number s (not_xml bytes r x) = refl
of_file files name number s (too_deep bytes r d) = refl

-- and trees with what is of all of them
of_schema : (files : ℕ) (library : Library) (s : Status) → Then (HasStart files) HasSchema library (answers s) → IsOfTrees s
of_schema files library s (inl (start_missing word m)) = tt
of_schema files library s (inr (same, h, too_large l)) = tt

pub odd_answers : (library : Library) (s : Status) → HasMergedOdd library (answers s) → ⊥
odd_answers library s h = elim h [ ]

of_text : (asked : Task) (files : ℕ) (library : Library) (s : Status) → HasText asked files library (answers s) → IsOfTrees s
of_text task.merge files library s h = absurd (odd_answers library s h)
of_text task.compile files library s h = of_schema files library s h
of_text (task.explain ident) files library s (asked_missing absent) = tt

pub of_trees : (asked : Task) (aside : Bool) (trees : List Tree) (s : Status) → TreesComeTo asked aside trees (answers s) → IsOfTrees s
of_trees asked aside trees s (inl (refused r)) = tt
of_trees asked aside trees s (inr (library, m, h)) = of_text asked (length trees) library s h

-- any other status is of the words
pub of_words : (words : List (List ℕ)) (files : FileMap) (s : Status) → ((number : ℕ) → IsOfFile number s → ⊥) → (IsOfTrees s → ⊥) → WordsComeTo files words (answers s) → NamesFiles words (answers s)
of_words words files s of_none of_no (inl n) = n
of_words words files s of_none of_no (inr (asked, n, inl (stops number name r h))) = absurd (of_none number (of_file files name number s h))
of_words words files s of_none of_no (inr (asked, n, inr (trees, r, t))) = absurd (of_no (of_trees asked.0 asked.1 trees s t))

-- none is Done
pub never_done : (words : List (List ℕ)) (files : FileMap) → WordsComeTo files words (answers status.Done) → ⊥
never_done words files h = elim (of_words words files status.Done (λ number is. is) (λ is. is) h) [ ]

-- what is asked of sound files answers nothing
schema_sound : (aside : Bool) (trees : List Tree) (library : Library) (s : Status) → IsCompiled aside trees → Gives aside trees library
    → Then (HasStart (length trees)) HasSchema library (answers s) → ⊥
schema_sound aside trees library s fit g (inl (start_missing word least)) = held_but library word least (fit.holds_start library g)
schema_sound aside trees library s fit g (inr (same, start_held h, too_large l)) = fit.within library l.grammar g l.is_grammar l.too_large

text_sound : (asked : Task) (aside : Bool) (trees : List Tree) (library : Library) (s : Status) → IsFitFor asked aside trees → Gives aside trees library
    → HasText asked (length trees) library (answers s) → ⊥
text_sound task.merge aside trees library s fit g h = odd_answers library s h
text_sound task.compile aside trees library s fit g h = schema_sound aside trees library s fit g h
text_sound (task.explain ident) aside trees library s fit g (asked_missing absent) = absent (fit library g)

trees_sound : (words : List (List ℕ)) (files : FileMap) (s : Status) (sound : IsSound words files) → TreesComeTo sound.asked sound.aside sound.trees (answers s) → ⊥
trees_sound words files s sound (inl (refused r)) = sound.unoffended _ r.at r.is_one
trees_sound words files s sound (inr (library, merged g, h)) = text_sound sound.asked sound.aside sound.trees library s sound.fit g h

-- and neither does any step before it, so there is no reply that writes nothing
pub sound_replies : (words : List (List ℕ)) (files : FileMap) (text : List ℕ) (s : Status) → IsSound words files → IsSilent s → Reply words files text s → ⊥
sound_replies words files text s sound silent (done comes) = silent
sound_replies words files text s sound silent (answered comes) =
    let read = after NamesFiles (ChainComesTo files) names_one words (sound.asked, sound.aside, sound.chain) (answers s) (named sound.asks sound.few) comes in
    trees_sound words files s sound (after (ReadsChain files) (TreesComeTo sound.asked sound.aside) (reading_one files) sound.chain sound.trees (answers s) (all_spelled sound.given) read)
