-- Lemmas on one line of a run: an entry line, or a call line.
use Rattle.std.proofs.Common.{◌≡◌, ℕ, ◌+◌, ◌≤◌, List, ◌∷◌, Option, Some, None, Err, Result, sym, refl, ap, ◌∙◌, arith}
use Rattle.model.specs.Setup.{Plan, Plan as Model}
use Rattle.model.specs.World.{World}
use Rattle.model.specs.Checks.{Verdict, verdict}
use Rattle.model.specs.Checks.Verdict.{accepted, refused}
use Rattle.lines.specs.Reading.{line_now, lines_read, IsLast}
use Rattle.lines.specs.declared.line.Line.{Line}
use Rattle.lines.specs.declared.reader.Reader.{Reader}
use Rattle.frames.specs.Frames.{Frame}
use Rattle.frames.specs.Frames.Frame.{call}
use Rattle.records.specs.declared.refusal.Refusal.{Refusal}
use Rattle.records.specs.declared.totals.Counts.{Counts}
use Rattle.page.specs.Refusals.{refusal, also}
use Rattle.page.specs.Reading.{coming}
use Rattle.page.specs.Calls.{counted, called, step_world, step_refusals, step_counts}
use Rattle.page.specs.First.{judged}
use Rattle.page.specs.Run.{placed, collected, opened, with_entry, entry_refusals, ended_at, begun, run}
use Rattle.page.specs.declared.fault.PageFault.{PageFault}
use Rattle.page.specs.declared.fault.PageFault.TheVariants.{Malformed}
use Rattle.page.specs.declared.types.Sort.{Sort}
use Rattle.page.specs.declared.types.Sort.TheVariants.{Cards, Slips}
use Rattle.page.specs.declared.types.PageEntry.{PageEntry}
use Rattle.page.specs.declared.types.Place.{Place}
use Rattle.page.specs.declared.types.Place.TheVariants.{Entry, Closes, Misplaced}

-- Line j, whose frame is f, stands in the place of an entry line.
module _ (sort : Sort) (p : Model) (es : List PageEntry) (k j : ℕ) (fs : List Refusal) (fr : List (Option Frame)) (f : Option Frame) (more : List (Option Frame)) (all : List ℕ)
    (inv : all ≡ collected sort p es k fs fr) (is : fr ≡ f ∷ more) (at : j ≡ k) where
  abbrev by_place : Place → List ℕ
  by_place pl = elim pl [
    | Entry x ↦ collected sort p (with_entry es x) (j + 1) (entry_refusals es j fs) more
    | Closes ↦ opened p es j fs (f ∷ more)
    | Misplaced ↦ collected sort p es (j + 1) (also fs (refusal j Malformed)) more
  ]

  line_here : (pl : Place) → pl ≡ placed sort f → all ≡ by_place pl
  line_here pl e = inv ∙ ap (collected sort p es k fs) is ∙ ap (λ i. collected sort p es i fs (f ∷ more)) (sym at) ∙ ap by_place (sym e)

  pub entry_line : (x : PageEntry) (es' : List PageEntry) (fs' : List Refusal) → Entry x ≡ placed sort f → es' ≡ with_entry es x → fs' ≡ entry_refusals es j fs
      → all ≡ collected sort p es' (j + 1) fs' more
  entry_line x es' fs' e a b =
      line_here (Entry x) e ∙ ap (λ y. collected sort p y (j + 1) (entry_refusals es j fs) more) (sym a) ∙ ap (λ y. collected sort p es' (j + 1) y more) (sym b)

  pub closing_line : Closes ≡ placed sort f → all ≡ opened p es j fs (f ∷ more)
  closing_line e = line_here Closes e

  pub misplaced_line : (fs' : List Refusal) → Misplaced ≡ placed sort f → fs' ≡ also fs (refusal j Malformed) → all ≡ collected sort p es (j + 1) fs' more
  misplaced_line fs' e b = line_here Misplaced e ∙ ap (λ y. collected sort p es (j + 1) y more) (sym b)

-- Line k, whose frame is f, stands in the place of a call line; then line k' is read, if there is one.
module _ (p : Plan) (w w' : World) (fs fs' : List Refusal) (c c' : Counts) where
  same_line : (r : Option Line) (y : Reader) (k k' : ℕ) → k' ≡ k + lines_read r → called p w' k' fs' c' (coming r y) ≡ called p w' (k + 1) fs' c' (coming r y)
  same_line (Some l) y k k' e = ap (λ i. called p w' i fs' c' (coming (Some l) y)) e
  same_line None y k k' e = refl

  pub call_line : (k k' : ℕ) (fr : List (Option Frame)) (f : Option Frame) (more : List (Option Frame)) (r : Option Line) (y : Reader) (all : List ℕ) → called p w k fs c fr ≡ all → fr ≡ f ∷ more
      → w' ≡ step_world p w f → fs' ≡ step_refusals p w k fs f → c' ≡ step_counts p w c f → more ≡ coming r y → k' ≡ k + lines_read r
      → called p w' k' fs' c' (coming r y) ≡ all
  call_line k k' fr f more r y all inv is ew ef ec er e =
      same_line r y k k' e ∙ ap (called p w' (k + 1) fs' c') (sym er) ∙ ap (λ x. called p x (k + 1) fs' c' more) ew ∙ ap (λ x. called p (step_world p w f) (k + 1) x c' more) ef
      ∙ ap (λ x. called p (step_world p w f) (k + 1) (step_refusals p w k fs f) x more) ec ∙ sym (ap (called p w k fs c) is) ∙ inv

-- a line at hand was read
pub some_read : (r : Option Line) (x : Reader) → IsLast r x → lines_read r ≤ line_now x
some_read None x h = omega arith
some_read (Some l) x h = omega (arith, l.counted)

-- a line counts for one call at most, and a call is accepted or refused
module _ (c : Counts) where
  count_most : (v : Verdict) → (counted v c).calls ≤ c.calls + 1
  count_most accepted = omega arith
  count_most (refused _ _ _ _) = omega arith

  count_sum : (v : Verdict) → c.accepted + c.refused ≡ c.calls → (counted v c).accepted + (counted v c).refused ≡ (counted v c).calls
  count_sum accepted h = omega arith
  count_sum (refused _ _ _ _) h = omega arith

  pub step_most : (p : Plan) (w : World) (f : Option Frame) → (step_counts p w c f).calls ≤ c.calls + 1
  step_most p w (Some (call x)) = count_most (verdict p w x)
  step_most p w _ = omega arith

  pub step_sum : (p : Plan) (w : World) (f : Option Frame) → c.accepted + c.refused ≡ c.calls → (step_counts p w c f).accepted + (step_counts p w c f).refused ≡ (step_counts p w c f).calls
  step_sum p w (Some (call x)) h = count_sum (verdict p w x) h
  step_sum p w _ h = h

-- The first line, whose frame is f: fr is what the reader has.
pub first_line : (sort : Sort) (fr : List (Option Frame)) (f g : Option Frame) (more : List (Option Frame)) (r : Result Plan PageFault) → fr ≡ f ∷ more → g ≡ f → r ≡ judged g → run sort fr ≡ begun sort r more
first_line sort fr f g more r is e j = ap (run sort) is ∙ ap (λ x. begun sort (judged x) more) (sym e) ∙ ap (λ x. begun sort x more) (sym j)

pub begun_refused : (sort : Sort) (f : PageFault) (more : List (Option Frame)) → begun sort (Err f) more ≡ ended_at 1 f
begun_refused Cards f more = refl
begun_refused Slips f more = refl
