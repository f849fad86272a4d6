-- What a reference that may be there says, and its copy.
use Rattle.std.proofs.Common.{◌≡◌, Option, Some, None, MatchOption, Bor, sym, subst}
use Rattle.entry_words.specs.declared.entry.Entry.{Entry}

pub match_weaker : {X : Type 0} (o : Option X) (P P' : Type 0) (Q Q' : X → Type 0) → MatchOption o P Q → (P → P')
    → ((x : X) → Q x → Q' x) → MatchOption o P' Q'
match_weaker None P P' Q Q' m f g = f m
match_weaker (Some x) P P' Q Q' m f g = g x m

pub match_copied : (o : Option (Bor Entry)) (r : Option Entry) (P : Option Entry → Type 0)
    → MatchOption o (P None) (λ e. P (Some e.now)) → MatchOption o (r ≡ None) (λ e. r ≡ Some e.now) → P r
match_copied None r P m q = subst P (sym q) m
match_copied (Some x) r P m q = subst P (sym q) m

pub match_some : {X : Type 0} (o : Option X) (x : X) (P : Type 0) (Q : X → Type 0) → o ≡ Some x → MatchOption o P Q → Q x
match_some o x P Q e m = subst (λ r. MatchOption r P Q) e m

pub match_none : {X : Type 0} (o : Option X) (P : Type 0) (Q : X → Type 0) → o ≡ None → MatchOption o P Q → P
match_none o P Q e m = subst (λ r. MatchOption r P Q) e m
