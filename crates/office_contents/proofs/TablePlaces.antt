-- The part of each table in what is said of all the tables of an office in turn.

abbrev pub of_office : {A B : Type 0} → A × B → A
of_office parts = parts.0

abbrev pub of_callers : {A B C : Type 0} → A × (B × C) → B
of_callers parts = parts.1.0

abbrev pub of_old_rules : {A B C D : Type 0} → A × (B × (C × D)) → C
of_old_rules parts = parts.1.1.0

abbrev pub of_classes : {A B C D E : Type 0} → A × (B × (C × (D × E))) → D
of_classes parts = parts.1.1.1.0

abbrev pub of_collections : {A B C D E F : Type 0} → A × (B × (C × (D × (E × F)))) → E
of_collections parts = parts.1.1.1.1.0

abbrev pub of_deposits : {A B C D E F G : Type 0} → A × (B × (C × (D × (E × (F × G))))) → F
of_deposits parts = parts.1.1.1.1.1.0

-- the table of the deposits of version 3, which later ones have at the same place
abbrev pub of_first_deposits : {A B C D E F G : Type 0} → A × (B × (C × (D × (E × (F × G))))) → F
of_first_deposits parts = parts.1.1.1.1.1.0

abbrev pub of_files : {A B C D E F G H : Type 0} → A × (B × (C × (D × (E × (F × (G × H)))))) → G
of_files parts = parts.1.1.1.1.1.1.0

abbrev pub of_old_holds : {A B C D E F G H I : Type 0} → A × (B × (C × (D × (E × (F × (G × (H × I))))))) → H
of_old_holds parts = parts.1.1.1.1.1.1.1.0

abbrev pub of_contents : {A B C D E F G H I J : Type 0} → A × (B × (C × (D × (E × (F × (G × (H × (I × J)))))))) → I
of_contents parts = parts.1.1.1.1.1.1.1.1.0

abbrev pub of_holds : {A B C D E F G H I J K : Type 0} → A × (B × (C × (D × (E × (F × (G × (H × (I × (J × K))))))))) → J
of_holds parts = parts.1.1.1.1.1.1.1.1.1.0

abbrev pub of_rules : {A B C D E F G H I J K L : Type 0} → A × (B × (C × (D × (E × (F × (G × (H × (I × (J × (K × L)))))))))) → K
of_rules parts = parts.1.1.1.1.1.1.1.1.1.1.0
