use Rattle.std.proofs.Common.{◌+◌, take, sym, subst}
use Rattle.std.proofs.lemmas.Result.{IfOk-weaker}
use Rattle.odd_patterns.specs.Words.{IsChoiceOf, IsGroupOf}
use Rattle.rng_dialect.specs.Matching.{AreMatched, IsWithin, Takes}
use Rattle.rng_dialect.specs.Matching.{Matches as RegexMatches}
use Rattle.rng_dialect.specs.declared.regex.Atom.TheVariants as atom
use Rattle.rng_dialect.specs.declared.regex.Piece.{out-Piece}
use Rattle.rng_dialect.specs.declared.regex.Regex.{out-Regex}
use Rattle.rng_matching.specs.Making.{IsFor, IsWithinOf, PieceMatches, TakesOne}
use Rattle.rng_matching.proofs.Atoms.{any_for, char_for, class_for, nested_for}
use Rattle.rng_matching.proofs.Made.{AllFit, choice_for, group_for, grows_trans, one_more_fits, piece_for, whole_fit}
use Rattle.rng_matching.proofs.pattern.+pattern_of.Goals as goal

pub regex_pattern-loop-pieces-preserved : goal.regex_pattern-loop-pieces-preserved
regex_pattern-loop-pieces-preserved t c =
    let i = c.loop-pieces.pieces-index in
    let branches = (out-Regex c.args.regex.now).branches in
    let old = c.loop-pieces.classes in
    let new = c.pieces_pattern.new.classes in
    let parts = c.loop-pieces.parts in
    let grows = c.pieces_pattern.ensures.grows in
    record {
      grows = grows_trans c.args.classes.now old new c.loop-pieces.invariant.grows grows;
      made = subst (λ qs. AllFit AreMatched new (take (i + 1) branches) qs) (sym c.in_ok-push.ensures.ok)
          (one_more_fits AreMatched old new branches _ parts i c.pieces-item.result c.in_ok-branch.branch c.as_slice-pieces-items.ensures grows c.loop-pieces-test.true
          c.pieces-item.is c.loop-pieces.invariant.made c.in_ok-branch.ensures.made);
    }

pub regex_pattern-returns-clause-made : goal.regex_pattern-returns-clause-made
regex_pattern-returns-clause-made t c =
    let r = c.args.regex.now in
    let classes = c.loop-pieces.classes in
    let parts = c.loop-pieces.parts in
    IfOk-weaker c.choice_of.result (λ made. IsChoiceOf parts made) (λ made. IsFor (RegexMatches r) classes made)
    (λ made h. choice_for r classes parts made
    (whole_fit AreMatched classes (out-Regex r).branches _ parts c.loop-pieces.pieces-index c.as_slice-pieces-items.ensures c.loop-pieces-test.false c.loop-pieces.invariant.made) h)
    c.choice_of.ensures

pub pieces_pattern-loop-piece-preserved : goal.pieces_pattern-loop-piece-preserved
pieces_pattern-loop-piece-preserved t c =
    let i = c.loop-piece.piece-index in
    let pieces = c.args.pieces.now in
    let old = c.loop-piece.classes in
    let new = c.piece_pattern.new.classes in
    let parts = c.loop-piece.parts in
    let grows = c.piece_pattern.ensures.grows in
    record {
      grows = grows_trans c.args.classes.now old new c.loop-piece.invariant.grows grows;
      made = subst (λ qs. AllFit PieceMatches new (take (i + 1) pieces) qs) (sym c.in_ok-push.ensures.ok)
          (one_more_fits PieceMatches old new pieces _ parts i c.piece-item.result c.in_ok-part.part c.as_slice-piece-items.ensures grows c.loop-piece-test.true
          c.piece-item.is c.loop-piece.invariant.made c.in_ok-part.ensures.made);
    }

pub pieces_pattern-returns-clause-made : goal.pieces_pattern-returns-clause-made
pieces_pattern-returns-clause-made t c =
    let pieces = c.args.pieces.now in
    let classes = c.loop-piece.classes in
    let parts = c.loop-piece.parts in
    IfOk-weaker c.group_of.result (λ made. IsGroupOf parts made) (λ made. IsFor (AreMatched pieces) classes made)
    (λ made h. group_for pieces classes parts made
    (whole_fit PieceMatches classes pieces _ parts c.loop-piece.piece-index c.as_slice-piece-items.ensures c.loop-piece-test.false c.loop-piece.invariant.made) h)
    c.group_of.ensures

pub piece_pattern-returns-clause-made : goal.piece_pattern-returns-clause-made
piece_pattern-returns-clause-made t c =
    let p = c.args.piece.now in
    let classes = c.atom_pattern.new.classes in
    let atom = c.in_ok-atom.atom in
    IfOk-weaker c.repeated.result (λ made. IsWithinOf (IsWithin (out-Piece p).bounds) atom made) (λ made. IsFor (PieceMatches p) classes made)
    (λ made h. piece_for p classes atom made c.in_ok-atom.ensures.made h) c.repeated.ensures

pub atom_pattern-returns-in-Nested-clause-made : goal.atom_pattern-returns-in-Nested-clause-made
atom_pattern-returns-in-Nested-clause-made t c =
    let classes = c.regex_pattern.new.classes in
    IfOk-weaker c.regex_pattern.result (IsFor (RegexMatches c.get.result.now) classes) (IsFor (Takes c.args.atom.now) classes)
    (λ made h. nested_for c.args.atom.now c.in-Nested.regex c.get.result.now classes made c.in-Nested.is c.get.ensures h) c.regex_pattern.ensures.made

pub atom_pattern-returns-in-Char-clause-made : goal.atom_pattern-returns-in-Char-clause-made
atom_pattern-returns-in-Char-clause-made t c =
    let classes = c.leaf_of.new.classes in
    IfOk-weaker c.leaf_of.result (IsFor (TakesOne (atom.Char c.in-Char.c)) classes) (IsFor (Takes c.args.atom.now) classes)
    (λ made h. char_for c.args.atom.now c.in-Char.c classes made c.in-Char.is h) c.leaf_of.ensures.made

pub atom_pattern-returns-in-Any-clause-made : goal.atom_pattern-returns-in-Any-clause-made
atom_pattern-returns-in-Any-clause-made t c =
    let classes = c.leaf_of-in-Any.new.classes in
    IfOk-weaker c.leaf_of-in-Any.result (IsFor (TakesOne atom.Any) classes) (IsFor (Takes c.args.atom.now) classes)
    (λ made h. any_for c.args.atom.now classes made c.in-Any.is h) c.leaf_of-in-Any.ensures.made

pub atom_pattern-returns-in_ok-members-in-Class-clause-made : goal.atom_pattern-returns-in_ok-members-in-Class-clause-made
atom_pattern-returns-in_ok-members-in-Class-clause-made t c =
    let classes = c.leaf_of-in-Class.new.classes in
    let copy = c.in_ok-members-in-Class.members in
    IfOk-weaker c.leaf_of-in-Class.result (IsFor (TakesOne (atom.Class c.in-Class.negated copy)) classes) (IsFor (Takes c.args.atom.now) classes)
    (λ made h. class_for c.args.atom.now c.in-Class.negated c.in-Class.members copy classes made c.in-Class.is c.in_ok-members-in-Class.ensures h) c.leaf_of-in-Class.ensures.made
