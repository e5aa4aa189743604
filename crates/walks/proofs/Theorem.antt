-- A function's theorem from its walk: `met_by`, at the tables of its callees, `tables_at`.
use mir.Syntax.{Callee, Fn}
use base.Logic.{sep}
use prog.Model.{Model}
use prog.Wp.{Closed}
use types.Logic.{Logic}
use contract.Lifetimes.{Lfts, Shares}
use contract.Running.{Running, tables}
use sound.WpLaws.{WpFn-mono}
use denote.Laws.{Are, Ises, Spells, valss, Tellss}
use denote.RattleType.{flat}
use denote.Signature.{types_at}
use denote.Triple.Clauses.{Ended, Clauses, closing}
use denote.Triple.Entry.{Args}
use denote.Triple.Spec.{Meets, triple_of}
use denote.Triple.Table.{entered}
use denote.Triple.Walked.{AllGo, walked, walk_Meets}
use prog.Routine as routine
use Rattle.walks.proofs.Walks.{Ura, ent, WpFn, Tables, AllOutlive, tables_of, on_entry, Stays}
use Rattle.walks.proofs.Walks.{walk_of}

module _ {M : Type 1} {𝓤 : Ura M} (𝓛 : Logic 𝓤) (𝓜 : Model 𝓤 𝓛.H) (𝓡 : Running 𝓤 𝓛.H 𝓜) (γ : routine.Env) where
  open 𝓛 use {H}

  abbrev pub tables_at : Tables 𝓤 H
  tables_at = tables_of 𝓤 H 𝓜 (tables 𝓤 H 𝓜 𝓡 γ)

  pub met_by : (T : Ended) (hs : Stays T.signature.params T.kept) → AllGo 𝓛 T.signature.lifetimes
      T.signature.params T.kept hs → (c : Clauses 𝓤 T)
      (k : Callee) (fn : Fn) → Closed 𝓤 H (tables 𝓤 H 𝓜 𝓡 γ).C (tables 𝓤 H 𝓜 𝓡 γ).Λ k fn
      → (sp : (κs : Lfts T.signature.lifetimes) → Spells (types_at T.signature.params κs)) → ((κs : Lfts T.signature.lifetimes)
      → Tellss (types_at T.signature.params κs) (Ises (types_at T.signature.params κs)) (sp κs))
      → ((κs : Lfts T.signature.lifetimes) (qs : Shares T.signature.lifetimes) (bounds : AllOutlive T.signature.lifetimes
      T.signature.outlives κs) (a : Args T.signature κs) (g : (c κs a).ghost)
      → Are (types_at T.signature.params κs) (Ises (types_at T.signature.params κs)) a (valss (types_at T.signature.params κs) (sp κs) a)
      → ent 𝓤 (sep 𝓤 (on_entry 𝓛 T.signature κs qs a (valss (types_at T.signature.params κs) (sp κs) a)) ((c κs a).requires g))
      (WpFn 𝓤 H tables_at.C tables_at.Λ fn (flat (types_at T.signature.params κs) (valss (types_at T.signature.params κs) (sp κs) a))
      ((walk_of 𝓛 T hs c).post ((κs, qs, bounds, a, valss (types_at T.signature.params κs) (sp κs) a), g))))
      → Meets 𝓛 T.signature ((tables 𝓤 H 𝓜 𝓡 γ).C k) (closing 𝓛 T c)
  unfolding tables_of
  met_by T hs gs c k fn closed sp tl walk =
      entered 𝓤 H (triple_of 𝓛 T.signature (closing 𝓛 T c)) (tables 𝓤 H 𝓜 𝓡 γ).C (tables 𝓤 H 𝓜 𝓡 γ).Λ k fn closed
      (walk_Meets 𝓛 T hs gs c (WpFn 𝓤 H tables_at.C tables_at.Λ fn) (WpFn-mono 𝓤 H 𝓛.laws tables_at fn)
      (walked 𝓛 T hs c (WpFn 𝓤 H tables_at.C tables_at.Λ fn) sp tl walk))
