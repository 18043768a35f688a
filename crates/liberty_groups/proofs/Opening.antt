-- The groups that are open, the innermost last in the builder and first in the grammar's state.
use Rattle.std.proofs.Common.{◌≡◌, ℕ, ◌<◌, ◌≤◌, List, [], ◌∷◌, ◌++◌, length, map, get_or, refl, sym, ap, ap₂, ◌∙◌, subst, arith}
use Rattle.std.specs.List.{All}
use Rattle.std.proofs.lemmas.List.{length-append, get_or_append_left, get_or_at}
use Rattle.std.proofs.lemmas.List.Elements.{All-head, All-tail, All-append, All-cons}
use Rattle.liberty_groups.specs.Groups.{Attribute, Group, Groups, no_group, and_group}
use Rattle.liberty_groups.specs.Modes.{Frame}
use Rattle.liberty_groups.specs.Tables.{nothing, gathered}
use Rattle.liberty_groups.specs.TableRows.{part_of, number_of, attributes_in}
use Rattle.liberty_groups.specs.Opened.{frame_of_open, frames_of, IsOpenIn}
use Rattle.liberty_groups.specs.declared.rows.OpenGroup.{OpenGroup}
use Rattle.liberty_groups.proofs.Spans.{part_stays}
use Rattle.liberty_groups.proofs.Pushing.{stays, wider, span_wider}
use Rattle.liberty_groups.proofs.Trees.{alike}

pub frames_push : (names texts : List (List ℕ)) (trees : List Group) (groups : List OpenGroup) (last : OpenGroup)
    → frames_of names texts trees (groups ++ last ∷ []) ≡ frame_of_open names texts trees last ∷ frames_of names texts trees groups
frames_push names texts trees [] last = refl
frames_push names texts trees (outer ∷ inner) last = ap (λ (frames : List Frame). frames ++ frame_of_open names texts trees outer ∷ []) (frames_push names texts trees inner last)

-- more names and texts change nothing of what is open
pub frames_stay : (names more_names texts more : List (List ℕ)) (count : ℕ) (trees : List Group) (groups : List OpenGroup) → All (IsOpenIn (length names) (length texts) count) groups
    → frames_of (names ++ more_names) (texts ++ more) trees groups ≡ frames_of names texts trees groups
frames_stay names more_names texts more count trees [] all = refl
frames_stay names more_names texts more count trees (outer ∷ inner) all =
    let here = All-head (IsOpenIn (length names) (length texts) count) outer inner all in
    ap₂ (λ (frames : List Frame) (frame : Frame). frames ++ frame ∷ [])
    (frames_stay names more_names texts more count trees inner (All-tail (IsOpenIn (length names) (length texts) count) outer inner all))
    (ap₂ (λ (args : List (List ℕ)) (own : List Attribute). record { name = outer.name; args = args; attributes = own; groups = gathered trees no_group (map number_of outer.children.items) })
    (part_stays texts more outer.args here.args) (stays names more_names texts more outer.attributes.items here.own))

pub open_wider : (few_names names few_texts texts few count : ℕ) (o : OpenGroup) → few_names ≤ names → few_texts ≤ texts → few ≤ count
    → IsOpenIn few_names few_texts few o → IsOpenIn names texts count o
open_wider few_names names few_texts texts few count o le_names le_texts le is = record {
  args = span_wider few_texts texts o.args le_texts is.args;
  own = wider few_names names few_texts texts o.attributes.items le_names le_texts is.own;
  inner = λ k d lt. let before = is.inner k d lt in omega arith;
}

pub all_wider : (few_names names few_texts texts few count : ℕ) (groups : List OpenGroup) → few_names ≤ names → few_texts ≤ texts → few ≤ count
    → All (IsOpenIn few_names few_texts few) groups → All (IsOpenIn names texts count) groups
all_wider few_names names few_texts texts few count groups le_names le_texts le all =
    λ k d lt. open_wider few_names names few_texts texts few count (get_or groups k d) le_names le_texts le (all k d lt)

pub all_more : (names texts count : ℕ) (groups : List OpenGroup) (last : OpenGroup) → All (IsOpenIn names texts count) groups → IsOpenIn names texts count last
    → All (IsOpenIn names texts count) (groups ++ last ∷ [])
all_more names texts count groups last all one =
    All-append (IsOpenIn names texts count) groups (last ∷ []) all (All-cons (IsOpenIn names texts count) last [] one (λ k d lt. absurd (omega arith)))

-- the last, and those before it
module _ (names texts count : ℕ) (groups : List OpenGroup) (last : OpenGroup) (all : All (IsOpenIn names texts count) (groups ++ last ∷ [])) where
  pub all_front : All (IsOpenIn names texts count) groups
  all_front = λ k d lt. subst (IsOpenIn names texts count) (get_or_append_left groups (last ∷ []) d k lt) (all k d (let e = length-append groups (last ∷ []) in omega arith))

  pub last_is : IsOpenIn names texts count last
  last_is = subst (IsOpenIn names texts count) (get_or_at groups last [] last (length groups) refl) (all (length groups) last (let e = length-append groups (last ∷ []) in omega arith))

-- one tree more
module _ (trees : List Group) (tree : Group) where
  tree_stays : (n : ℕ) → n < length trees → get_or (trees ++ tree ∷ []) n nothing ≡ get_or trees n nothing
  tree_stays n lt = get_or_append_left trees (tree ∷ []) nothing n lt

  pub gathered_stay : (numbers : List ℕ) → All (λ (n : ℕ). n < length trees) numbers → gathered (trees ++ tree ∷ []) no_group numbers ≡ gathered trees no_group numbers
  gathered_stay numbers all = alike (trees ++ tree ∷ []) trees no_group numbers (length trees) all tree_stays

  pub trees_stay : (names texts : List (List ℕ)) (groups : List OpenGroup) → All (IsOpenIn (length names) (length texts) (length trees)) groups
      → frames_of names texts (trees ++ tree ∷ []) groups ≡ frames_of names texts trees groups
  trees_stay names texts [] all = refl
  trees_stay names texts (outer ∷ inner) all =
      let here = All-head (IsOpenIn (length names) (length texts) (length trees)) outer inner all in
      ap₂ (λ (frames : List Frame) (frame : Frame). frames ++ frame ∷ [])
      (trees_stay names texts inner (All-tail (IsOpenIn (length names) (length texts) (length trees)) outer inner all))
      (ap (λ (groups : Groups). record { name = outer.name; args = part_of texts outer.args; attributes = attributes_in names texts outer.attributes.items; groups = groups })
      (gathered_stay (map number_of outer.children.items) here.inner))

gathered_more : (trees : List Group) (before : Groups) (numbers : List ℕ) (n : ℕ) → gathered trees before (numbers ++ n ∷ []) ≡ and_group (gathered trees before numbers) (get_or trees n nothing)
gathered_more trees before [] n = refl
gathered_more trees before (first ∷ numbers) n = gathered_more trees (and_group before (get_or trees first nothing)) numbers n

-- the last group ends inside the one before it
pub gathered_last : (trees : List Group) (tree : Group) (numbers : List ℕ) (n : ℕ) → n ≡ length trees → All (λ (m : ℕ). m < length trees) numbers
    → gathered (trees ++ tree ∷ []) no_group (numbers ++ n ∷ []) ≡ and_group (gathered trees no_group numbers) tree
gathered_last trees tree numbers n e all =
    gathered_more (trees ++ tree ∷ []) no_group numbers n
    ∙ ap₂ and_group (gathered_stay trees tree numbers all) (get_or_at trees tree [] nothing n (sym e))
