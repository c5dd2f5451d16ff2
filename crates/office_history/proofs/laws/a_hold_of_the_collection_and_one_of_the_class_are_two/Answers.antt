use Rattle.office_history.proofs.Lemmas.{refl, arith, signed_arith, covers_collection, covers_class, among_live, two_live}
use Rattle.office_history.proofs.laws.a_hold_of_the_collection_and_one_of_the_class_are_two.Goals as goal

pub returns : goal.returns
returns c = λ h j k n day later matter other found is is_other live live_other.
    let a = among_live h j n found.1 live (covers_collection h j n day found.1.description.collection matter found.1 is refl) in
    let b = among_live h k n found.1 live_other (covers_class h k n later found.1.description.class other found.1 is_other refl) in
    let two = two_live h j k n day later found.1.description.collection found.1.description.class matter other found.1 is is_other a b in
    omega (arith, signed_arith, two)
