-- What stays when one channel changes.
use Rattle.std.proofs.Common.{◌≡◌, refl, sym, ◌∙◌, ap, subst, ℕ, true, false, ⊎_elim, List, [], ◌∷◌}
use Rattle.std.proofs.Common.{Option, Some, None, arith, is_some}
use Rattle.std.proofs.lemmas.Bool.{cases_Bool}
use Rattle.std.proofs.lemmas.Bool.Decides.{nat_tests}
use Rattle.std.specs.BTreeMap.{is_at}
use Rattle.std.specs.Map.{set_value}
use Rattle.std.specs.Ordering.{nat_cmp}
use Rattle.channel_table.specs.declared.channel.Stage.{Stage}
use Rattle.channel_table.specs.declared.channel.Stage.TheVariants as stages
use Rattle.channel_table.specs.declared.channel.ShortMessage.{ShortMessage}
use Rattle.channel_table.specs.Channels.{ChannelView, with_first, with_stage}
use Rattle.channel_table.specs.Tables.{Keeps, KeepsOne, KeepsOneOrEnds, KeepsOrEnds, KeepsOthers, at_stage, changed}
use Rattle.channel_table.specs.Tables.{changed_at, channel_at, has_ended, is_taken, keeping_first, may_open, stage_at}
use Rattle.channel_table.specs.Tables.{stage_in}

pub keeps_itself : (o : Option ChannelView) → KeepsOne o o
keeps_itself None = tt
keeps_itself (Some c) = (refl, refl, λ h. h)

keeps_same : (o p : Option ChannelView) → p ≡ o → KeepsOne o p
keeps_same o p e = subst (λ (x : Option ChannelView). KeepsOne o x) (sym e) (keeps_itself o)

ends_itself : (o : Option ChannelView) → KeepsOneOrEnds o o
ends_itself None = tt
ends_itself (Some c) = (refl, refl, λ h. h)

ends_same : (o p : Option ChannelView) → p ≡ o → KeepsOneOrEnds o p
ends_same o p e = subst (λ (x : Option ChannelView). KeepsOneOrEnds o x) (sym e) (ends_itself o)

ends_gone : (o : Option ChannelView) → KeepsOneOrEnds o None
ends_gone None = tt
ends_gone (Some c) = tt

the_same : (d c : ChannelView) → Some d ≡ Some c → d ≡ c
the_same d c k = cc

-- an entry that is written anew is found so
there_value : (id : ℕ) (es : List (ℕ × ChannelView)) (c w : ChannelView) → channel_at es id ≡ Some c
    → channel_at (set_value (is_at (nat_cmp id)) es w) id ≡ Some w
there_value id [] c w h = cc
there_value id (e ∷ es) c w h =
    ⊎_elim (λ (b : is_at (nat_cmp id) e.0 ≡ true). rw (b, b) refl)
    (λ (b : is_at (nat_cmp id) e.0 ≡ false). rw (b, b) (there_value id es c w (rw b at h)))
    (cases_Bool (is_at (nat_cmp id) e.0))

-- and all others stay
keeps_value : (q id : ℕ) (es : List (ℕ × ChannelView)) (c w : ChannelView) → channel_at es id ≡ Some c
    → KeepsOne (Some c) (Some w) → KeepsOne (channel_at es q) (channel_at (set_value (is_at (nat_cmp id)) es w) q)
keeps_value q id [] c w h k = cc
keeps_value q id (e ∷ es) c w h k =
    ⊎_elim (λ (b : is_at (nat_cmp id) e.0 ≡ true).
    ⊎_elim (λ (d : is_at (nat_cmp q) e.0 ≡ true).
    rw (b, d) (subst (λ (x : ChannelView). KeepsOne (Some x) (Some w)) (sym (the_same e.1 c (rw b at h))) k))
    (λ (d : is_at (nat_cmp q) e.0 ≡ false). rw (b, d) (keeps_itself (channel_at es q)))
    (cases_Bool (is_at (nat_cmp q) e.0)))
    (λ (b : is_at (nat_cmp id) e.0 ≡ false).
    ⊎_elim (λ (d : is_at (nat_cmp q) e.0 ≡ true). rw (b, d) (keeps_itself (Some e.1)))
    (λ (d : is_at (nat_cmp q) e.0 ≡ false). rw (b, d) (keeps_value q id es c w (rw b at h) k))
    (cases_Bool (is_at (nat_cmp q) e.0)))
    (cases_Bool (is_at (nat_cmp id) e.0))

keeps_changed_at : (o : Option ChannelView) (change : ChannelView → ChannelView) (t : List (ℕ × ChannelView)) (id : ℕ)
    → channel_at t id ≡ o → ((c : ChannelView) → o ≡ Some c → KeepsOne (Some c) (Some (change c)))
    → Keeps t (changed_at o change t id)
keeps_changed_at None change t id e k q = keeps_itself (channel_at t q)
keeps_changed_at (Some c) change t id e k q = keeps_value q id t c (change c) e (k c refl)

keeps_changed : (change : ChannelView → ChannelView) (t : List (ℕ × ChannelView)) (id : ℕ)
    → ((c : ChannelView) → channel_at t id ≡ Some c → KeepsOne (Some c) (Some (change c)))
    → Keeps t (changed change t id)
keeps_changed change t id k = keeps_changed_at (channel_at t id) change t id refl k

there_changed_at : (o : Option ChannelView) (change : ChannelView → ChannelView) (t : List (ℕ × ChannelView)) (id : ℕ)
    (c : ChannelView) → channel_at t id ≡ o → o ≡ Some c → channel_at (changed_at o change t id) id ≡ Some (change c)
there_changed_at None change t id c e k = cc
there_changed_at (Some d) change t id c e k =
    there_value id t d (change d) e ∙ ap (λ (x : ChannelView). Some (change x)) (the_same d c k)

there_changed : (change : ChannelView → ChannelView) (t : List (ℕ × ChannelView)) (id : ℕ) (c : ChannelView)
    → channel_at t id ≡ Some c → channel_at (changed change t id) id ≡ Some (change c)
there_changed change t id c e = there_changed_at (channel_at t id) change t id c refl e

-- a channel goes on to a stage, where one that ends goes on to end

stage_there : (o : Option ChannelView) (c : ChannelView) → o ≡ Some c → stage_in o ≡ Some c.stage
stage_there o c e = ap stage_in e

not_closing : (o : Option ChannelView) (c : ChannelView) → may_open (stage_in o) ≡ true → o ≡ Some c
    → c.stage ≡ stages.Closing → ⊥
not_closing o c h e closing =
    let there : may_open (stage_in o) ≡ may_open (Some c.stage) =
    ap (λ (x : Option ChannelView). may_open (stage_in x)) e in
    let ends : may_open (Some c.stage) ≡ false = ap (λ (s : Stage). may_open (Some s)) closing in
    cc

keeps_opening : (t : List (ℕ × ChannelView)) (id : ℕ) (s : Stage) → may_open (stage_at t id) ≡ true
    → Keeps t (at_stage t id s)
keeps_opening t id s h =
    keeps_changed (with_stage s) t id (λ (c : ChannelView) (e : channel_at t id ≡ Some c).
    (refl, refl, λ (closing : c.stage ≡ stages.Closing). absurd (not_closing (channel_at t id) c h e closing)))

keeps_closing : (t : List (ℕ × ChannelView)) (id : ℕ) → Keeps t (at_stage t id stages.Closing)
keeps_closing t id =
    keeps_changed (with_stage stages.Closing) t id (λ (c : ChannelView) (e : channel_at t id ≡ Some c).
    (refl, refl, λ (closing : c.stage ≡ stages.Closing). refl))

keeps_first : (t : List (ℕ × ChannelView)) (id : ℕ) (m : ShortMessage) → Keeps t (keeping_first t id m)
keeps_first t id m =
    keeps_changed (with_first m) t id (λ (c : ChannelView) (e : channel_at t id ≡ Some c).
    (refl, refl, λ (closing : c.stage ≡ stages.Closing). closing))

-- the stage is then that

opened_at : (o : Option ChannelView) (t : List (ℕ × ChannelView)) (id : ℕ) (s : Stage) → channel_at t id ≡ o
    → may_open (stage_in o) ≡ true → stage_at (changed_at o (with_stage s) t id) id ≡ Some s
opened_at None t id s e h = cc
opened_at (Some c) t id s e h = ap stage_in (there_value id t c (with_stage s c) e)

opened_stage : (t : List (ℕ × ChannelView)) (id : ℕ) (s : Stage) → may_open (stage_at t id) ≡ true
    → stage_at (at_stage t id s) id ≡ Some s
opened_stage t id s h = opened_at (channel_at t id) t id s refl h

ended_at : (o : Option ChannelView) (t : List (ℕ × ChannelView)) (id : ℕ) → channel_at t id ≡ o
    → has_ended (stage_at (changed_at o (with_stage stages.Closing) t id) id) ≡ true
ended_at None t id e = ap (λ (x : Option ChannelView). has_ended (stage_in x)) e
ended_at (Some c) t id e =
    ap (λ (x : Option ChannelView). has_ended (stage_in x)) (there_value id t c (with_stage stages.Closing c) e)

ended_stage : (t : List (ℕ × ChannelView)) (id : ℕ) → has_ended (stage_at (at_stage t id stages.Closing) id) ≡ true
ended_stage t id = ended_at (channel_at t id) t id refl

first_at : (o : Option ChannelView) (t : List (ℕ × ChannelView)) (id : ℕ) (m : ShortMessage) (s : Stage)
    → channel_at t id ≡ o → stage_in o ≡ Some s → stage_at (changed_at o (with_first m) t id) id ≡ Some s
first_at None t id m s e h = cc
first_at (Some c) t id m s e h = ap stage_in (there_value id t c (with_first m c) e) ∙ h

first_stage : (t : List (ℕ × ChannelView)) (id : ℕ) (m : ShortMessage) (s : Stage) → stage_at t id ≡ Some s
    → stage_at (keeping_first t id m) id ≡ Some s
first_stage t id m s h = first_at (channel_at t id) t id m s refl h

-- what stays twice stays

pub keeps_twice : (a b c : Option ChannelView) → KeepsOne a b → KeepsOne b c → KeepsOne a c
keeps_twice None b c h k = tt
keeps_twice (Some x) None c h k = absurd h
keeps_twice (Some x) (Some y) None h k = absurd k
keeps_twice (Some x) (Some y) (Some z) h k = (k.0 ∙ h.0, k.1 ∙ h.1, λ e. k.2 (h.2 e))

-- the clauses of the table's calls

pub begins : (t u : List (ℕ × ChannelView)) (id : ℕ) (s : Stage) → u ≡ at_stage t id s
    → may_open (stage_at t id) ≡ true → Keeps t u
begins t u id s e h = subst (λ (x : List (ℕ × ChannelView)). Keeps t x) (sym e) (keeps_opening t id s h)

pub is_open : (t u : List (ℕ × ChannelView)) (id : ℕ) (s : Stage) → u ≡ at_stage t id s
    → may_open (stage_at t id) ≡ true → stage_at u id ≡ Some s
is_open t u id s e h = ap (λ (x : List (ℕ × ChannelView)). stage_at x id) e ∙ opened_stage t id s h

pub opens_by : (t u : List (ℕ × ChannelView)) (id : ℕ) (m : ShortMessage) (s : Stage)
    → u ≡ keeping_first (at_stage t id s) id m → may_open (stage_at t id) ≡ true → Keeps t u
opens_by t u id m s e h =
    subst (λ (x : List (ℕ × ChannelView)). Keeps t x) (sym e)
    (λ (q : ℕ). keeps_twice (channel_at t q) (channel_at (at_stage t id s) q)
    (channel_at (keeping_first (at_stage t id s) id m) q) (keeps_opening t id s h q)
    (keeps_first (at_stage t id s) id m q))

pub is_open_by : (t u : List (ℕ × ChannelView)) (id : ℕ) (m : ShortMessage) (s : Stage)
    → u ≡ keeping_first (at_stage t id s) id m → may_open (stage_at t id) ≡ true → stage_at u id ≡ Some s
is_open_by t u id m s e h =
    ap (λ (x : List (ℕ × ChannelView)). stage_at x id) e
    ∙ first_stage (at_stage t id s) id m s (opened_stage t id s h)

pub closes : (t u : List (ℕ × ChannelView)) (id : ℕ) → u ≡ at_stage t id stages.Closing → Keeps t u
closes t u id e = subst (λ (x : List (ℕ × ChannelView)). Keeps t x) (sym e) (keeps_closing t id)

pub is_closed : (t u : List (ℕ × ChannelView)) (id : ℕ) → u ≡ at_stage t id stages.Closing
    → has_ended (stage_at u id) ≡ true
is_closed t u id e = ap (λ (x : List (ℕ × ChannelView)). has_ended (stage_at x id)) e ∙ ended_stage t id

same_id : (id q : ℕ) → is_at (nat_cmp id) q ≡ true → id ≡ q
same_id id q h = grind (arith, nat_tests)

none_there : (o : Option ChannelView) → is_some o ≡ false → o ≡ None
none_there None h = refl
none_there (Some c) h = cc

pub inserts : (t u : List (ℕ × ChannelView)) (id : ℕ) → KeepsOthers id t u → is_taken t id ≡ false → Keeps t u
inserts t u id others free q =
    ⊎_elim (λ (b : is_at (nat_cmp id) q ≡ true).
    let none : channel_at t q ≡ None = none_there (channel_at t q)
    (ap (λ (n : ℕ). is_taken t n) (sym (same_id id q b)) ∙ free) in
    subst (λ (x : Option ChannelView). KeepsOne x (channel_at u q)) (sym none) tt)
    (λ (b : is_at (nat_cmp id) q ≡ false). keeps_same (channel_at t q) (channel_at u q) (others q b))
    (cases_Bool (is_at (nat_cmp id) q))

pub removes : (t u : List (ℕ × ChannelView)) (id : ℕ) → KeepsOthers id t u → channel_at u id ≡ None → KeepsOrEnds t u
removes t u id others gone q =
    ⊎_elim (λ (b : is_at (nat_cmp id) q ≡ true).
    let none : channel_at u q ≡ None = ap (λ (n : ℕ). channel_at u n) (sym (same_id id q b)) ∙ gone in
    subst (λ (x : Option ChannelView). KeepsOneOrEnds (channel_at t q) x) (sym none) (ends_gone (channel_at t q)))
    (λ (b : is_at (nat_cmp id) q ≡ false). ends_same (channel_at t q) (channel_at u q) (others q b))
    (cases_Bool (is_at (nat_cmp id) q))

pub clears : (t u : List (ℕ × ChannelView)) → u ≡ [] → KeepsOrEnds t u
clears t u e q =
    subst (λ (x : List (ℕ × ChannelView)). KeepsOneOrEnds (channel_at t q) (channel_at x q)) (sym e)
    (ends_gone (channel_at t q))
